-- After items that add no line of a block the source stands for its reader.
use Rattle.std.proofs.Common.{◌≡◌, ◌∙◌, ℕ, suc, ◌+◌, ◌≤◌, Bool, true, false, ◌&&◌, List, [], ◌∷◌, ◌++◌, length, take, refl, ap, sym, subst, arith}
use Rattle.pp_lexer.specs.Lexed.{Seen}
use Rattle.pp_model.specs.Definitions.{Definitions}
use Rattle.pp_model.specs.Sights.{sight_of, is_text, is_directive_hash}
use Rattle.pp_model.specs.Blocks.{block_lines, Block}
use Rattle.pp_model.specs.SourceReader.{SourceReader, is_on_directive_line}
use Rattle.pp_model.specs.Acts.{advanced_by}
use Rattle.pp_model.specs.declared.sight.Sight.{Sight}
use Rattle.pp_macros.specs.inner.Defined.{meaning_of}
use Rattle.pp_macros.specs.inner.OpenBlocks.{is_live_among}
use Rattle.pp_macros.specs.inner.SourceMoves.{Note, notes_text, notes_directive}
use Rattle.pp_macros.specs.inner.Source.{Source, IsAfter}
use Rattle.pp_rs.specs.inner.StandsPast.{dead_count, StandPast}
use Rattle.pp_rs.specs.inner.Stands.{StandsReading}
use Rattle.pp_rs.proofs.source.DirectiveBeforeLemmas.{AddsDirective}
use Rattle.pp_rs.proofs.blocks.LinesBeforeLemmas.{AddsLines}
use Rattle.pp_macros.proofs.work.QuietLemmas.{is_one_item, quiet_item, OneInFront, one_in_front}
use Rattle.pp_rs.proofs.blocks.RememberedLemmas.{IsRemembered, one_remembered, two_remembered}
use Rattle.pp_rs.proofs.source.StandsAfterLemmas.{live_now, remembered_here, stands_further, blocks_stay}
use Rattle.pp_rs.proofs.blocks.TruthLemmas.{before_later}

module _ {old : Source} {r : SourceReader} (s : StandsReading old r) (new : Source) where
  -- where no definition changes, each name stands for what it stood for
  pub same_meaning : new.definitions ≡ old.definitions → r.definitions ≡ meaning_of new.definitions
  same_meaning same = s.definitions ∙ ap meaning_of (sym same)

module _ {old : Source} {r : SourceReader} (s : StandsReading old r) {new : Source} where
  -- after so many items among which no line of a block stands
  pub stands_quiet : (n : ℕ) {note : Note} (definitions : Definitions) → n ≤ length old.rest → IsAfter n note old.blocks old new
      → definitions ≡ meaning_of new.definitions → AddsLines r.position n old.rest [] → IsRemembered new r.items r.truths (r.position + n)
      → StandsReading new (record r { position = r.position + n; definitions = definitions })
  stands_quiet n definitions within b means adds remembered =
      stands_further old r s n definitions r.truths [] new within b means adds
      (subst (λ (blocks : List Block). StandPast (dead_count old.dead_for_good) r.items r.truths old.blocks blocks) (sym (blocks_stay old r s n adds)) s.here.blocks)
      (before_later r.position (r.position + n) r.truths (omega arith) s.here.truths) remembered

  -- the same where no definition changes
  stands_same : (n : ℕ) {note : Note} → n ≤ length old.rest → IsAfter n note old.blocks old new → new.definitions ≡ old.definitions
      → AddsLines r.position n old.rest []
      → IsRemembered new r.items r.truths (r.position + n) → StandsReading new (advanced_by n r)
  stands_same n within b same adds remembered = stands_quiet n r.definitions within b (same_meaning s new same) adds remembered

  -- after one item that is no number sign of a directive
  pub stands_first : {live : Bool} (alive : is_live_among old.dead_for_good old.blocks ≡ live) (f : OneInFront old.rest) {note : Note}
      → notes_text note ≡ (live && is_text (sight_of old.rest)) → notes_directive note ≡ false → IsAfter 1 note old.blocks old new
      → new.definitions ≡ old.definitions
      → StandsReading new (advanced_by 1 r)
  stands_first {live} alive f {note} noted none b same =
      stands_same 1 (omega (arith, ap length f.front)) b same
      (λ after. ap (λ items. block_lines r.position (take 1 items ++ after)) f.front ∙ quiet_item r.position f.first after f.quiet)
      (one_remembered old new r.items r.truths r.position s.here.rest (remembered_here old r s) live alive
      (live_now old r s ∙ alive) f.first f.later f.front f.quiet note noted none b)

  -- so it is after a newline, a token of the text or a number sign that begins no line
  pub stands_one : {live : Bool} (alive : is_live_among old.dead_for_good old.blocks ≡ live) {shown : Sight} (e : sight_of old.rest ≡ shown) {note : Note}
      → is_one_item shown ≡ true → notes_text note ≡ (live && is_text shown) → notes_directive note ≡ false → IsAfter 1 note old.blocks old new
      → new.definitions ≡ old.definitions
      → StandsReading new (advanced_by 1 r)
  stands_one {live} alive e one text none b same =
      stands_first alive (one_in_front old.rest (ap is_one_item e ∙ one)) (text ∙ ap (λ x. live && is_text x) (sym e)) none b same

  -- after the number sign of a directive and what stands after it, where they add no line of a block
  pub stands_two : (off : is_live_among old.dead_for_good old.blocks ≡ true → is_on_directive_line r.items (suc (suc r.position)) ≡ false) {shown : Sight} (e : sight_of old.rest ≡ shown)
      {note : Note} (a b : Seen) (rest : List Seen)
      → is_directive_hash a.item ≡ true → is_text shown ≡ false → notes_text note ≡ false → AddsDirective 2 old.rest (notes_directive note) → old.rest ≡ a ∷ b ∷ rest
      → ((later : List Seen) → block_lines r.position (a ∷ b ∷ later) ≡ block_lines (r.position + 2) later) → IsAfter 2 note old.blocks old new
      → new.definitions ≡ old.definitions
      → StandsReading new (advanced_by 2 r)
  stands_two off {shown} e {note} a b rest hash none text adds front quiet after same =
      stands_same 2 (omega (arith, ap length front)) after same (λ later. ap (λ items. block_lines r.position (take 2 items ++ later)) front ∙ quiet later)
      (two_remembered old new r.items r.truths r.position s.here.rest (remembered_here old r s) off shown e a b rest front hash none note text
      (notes_directive note) refl adds after)
