use Rattle.std.proofs.Common.{◌∙◌, sym, arith}
use Rattle.std.specs.Prelude.{position}
use Rattle.std.specs.Str.{chars}
use Rattle.pp_model.specs.Names.{is_same_name}
use Rattle.pp_macros.proofs.defined_names.NameKeysLemmas.{text_tests, lookup_alike}
use Rattle.pp_macros.specs.inner.NamePlaces.{names_of}
use Rattle.pp_macros.proofs.defined_names.DistinctNamesLemmas.{only_at}
use Rattle.pp_macros.proofs.defined_names.SharedNamesLemmas.{length-names_of, name_read}
use Rattle.pp_macros.proofs.defined_names.NamePlacesLemmas.{found_other, others_more, other_hash, other_text}
use Rattle.pp_macros.proofs.names.table.Table.find.Goals as goal
use Rattle.pp_macros.proofs.names.table.Table.find.Goals.{else-place-hash-via-then-place-hash+else-is_text, else-place-hash-via-else-place-hash}

pub returns-then-is_text : goal.returns-then-is_text
returns-then-is_text c =
    sym (only_at (names_of c.args.texts.now) c.index-place.result.now.number (chars c.args.name.now) c.index-texts-number.result.value c.requires.distinct
    (rw (length-names_of c.args.texts.now) c.if-number-texts.false)
    (name_read c.args.texts.now c.index-place.result.now.number c.index-texts-number.result c.if-number-texts.false c.index-texts-number.is)
    (rw c.deref.ensures at (sym c.is_text.ensures ∙ c.if-is_text.true)))

pub loop-after-preserved : goal.loop-after-preserved
loop-after-preserved c =
    others_more c.args.self.now.places.items c.hash_of-hash.result (position (is_same_name (chars c.args.name.now)) (names_of c.args.texts.now))
    c.loop-after.after c.index.result c.index-place.result.now c.loop-after.invariant c.index.ensures.is c.index.ensures.inside c.index-place.ensures
    (elim c.else-place-hash.branch [
      | else-place-hash-via-then-place-hash+else-is_text w ↦
          other_text (names_of c.args.texts.now) (chars c.args.name.now) w.index-texts-number.result.value c.index-place.result.now c.hash_of-hash.result
          (rw (length-names_of c.args.texts.now) c.if-number-texts.false)
          (name_read c.args.texts.now c.index-place.result.now.number w.index-texts-number.result c.if-number-texts.false w.index-texts-number.is)
          (rw w.deref.ensures at (sym w.is_text.ensures ∙ w.if-is_text.false))
      | else-place-hash-via-else-place-hash w ↦ λ number e. other_hash c.index-place.result.now c.hash_of-hash.result w.if-place-hash.false number
    ])

pub returns : goal.returns
returns c =
    c.copied.ensures ∙ c.get.ensures.value ∙ lookup_alike _ _ (text_tests c.args.name.now c.utf8.name) c.args.self.now.others.entries
    ∙ found_other c.args.self.now.places.items c.hash_of-hash.result _ (position (is_same_name (chars c.args.name.now)) (names_of c.args.texts.now))
    (rw c.hash_of-hash.ensures (c.requires.finds (chars c.args.name.now)))
    (λ k number near. c.loop-after.invariant k number (omega arith))
