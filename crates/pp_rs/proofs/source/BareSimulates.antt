-- A number sign without a word after it: passing it is a step of the reader.
use Rattle.std.proofs.Common.{◌≡◌, ◌∙◌, ℕ, suc, true, false, ◌∷◌, refl, sym, None}
use Rattle.pp_model.specs.Places.{Fault}
use Rattle.pp_model.specs.Sights.{sight_of}
use Rattle.pp_model.specs.Blocks.{line_at}
use Rattle.pp_model.specs.SourceReader.{SourceReader, is_on_directive_line}
use Rattle.pp_model.specs.Acts.{pause_at, advanced_by}
use Rattle.pp_model.specs.declared.sight.Sight.{Sight}
use Rattle.pp_model.specs.declared.sight.Sight.TheVariants as sight
use Rattle.pp_macros.specs.Item.{PlacedStep}
use Rattle.pp_lexer.specs.declared.token.Token.{Token}
use Rattle.pp_macros.specs.inner.OpenBlocks.{is_live_among}
use Rattle.pp_macros.specs.inner.SourceMoves.{Note, unnoted, directive_line, notes_text, notes_directive}
use Rattle.pp_macros.specs.inner.Source.{Source, Pauses}
use Rattle.pp_rs.specs.inner.Stands.{StandsReading}
use Rattle.pp_rs.proofs.source.DirectiveBeforeLemmas.{begins_with_hash, hash_in_front, AddsDirective, lone_adds, no_word_adds}
use Rattle.pp_rs.proofs.blocks.RememberedLemmas.{begins_no_text}
use Rattle.pp_rs.proofs.source.DirectivePlaceLemmas.{one_after, off_line_after_end}
use Rattle.pp_macros.proofs.work.QuietLemmas.{is_bare, begins_bare, lone_ends}
use Rattle.pp_rs.proofs.source.Simulates.{SimulatesIn}
use Rattle.pp_rs.proofs.source.SkippedLemmas.{bare_quiet}
use Rattle.pp_rs.proofs.source.StandsAfterLemmas.{lined_here}
use Rattle.pp_rs.proofs.source.StepHereLemmas.{acts, pauses_here}
use Rattle.pp_rs.proofs.source.StandsQuietLemmas.{stands_two}

bare_begins : (shown : Sight) → is_bare shown ≡ true → begins_with_hash shown ≡ true
bare_begins sight.Lone h = refl
bare_begins (sight.NoWord fault) h = refl
bare_begins _ h = cc

module _ {old : Source} {r : SourceReader} (s : StandsReading old r) (move : PlacedStep Token) (new : Source) where
  bare_passes : {shown : Sight} (e : sight_of old.rest ≡ shown) → is_bare shown ≡ true → ((position : ℕ) → line_at position shown ≡ None)
      → {note : Note} → notes_text note ≡ false
      → (is_live_among old.dead_for_good old.blocks ≡ true → is_on_directive_line r.items (suc (suc r.position)) ≡ false)
      → AddsDirective 2 old.rest (notes_directive note) → acts old r ≡ pause_at (advanced_by 2 r)
      → Pauses 2 note old.blocks old move new → SimulatesIn move old r new
  bare_passes {shown} e bare none text off adds acts h =
      let b = begins_bare old.rest shown bare e in
      pauses_here s move new acts (
        h.0,
        stands_two s off e b.hash b.name b.after (hash_in_front b.hash (b.name ∷ b.after) shown (b.seen b.after) (bare_begins shown bare))
            (begins_no_text shown (bare_begins shown bare)) text adds b.front
            (bare_quiet r.position b none (lined_here old r s)) h.1 h.2,
      )

  -- a number sign alone on its line
  pub lone_passes : sight_of old.rest ≡ sight.Lone → acts old r ≡ pause_at (advanced_by 2 r) → Pauses 2 directive_line old.blocks old move new
      → SimulatesIn move old r new
  lone_passes e a h =
      let b = begins_bare old.rest sight.Lone refl e in
      let front = sym s.here.rest ∙ b.front in
      bare_passes e refl (λ position. refl) refl
      (λ is. off_line_after_end r.items (suc r.position) b.name b.after (one_after r.items r.position b.hash (b.name ∷ b.after) front)
      (lone_ends b.hash b.name b.after (b.seen b.after)))
      (lone_adds old.rest e) a h

  -- in dead text one before what is no word
  pub no_word_passes : is_live_among old.dead_for_good old.blocks ≡ false → (fault : Fault) → sight_of old.rest ≡ sight.NoWord fault
      → acts old r ≡ pause_at (advanced_by 2 r) → Pauses 2 unnoted old.blocks old move new → SimulatesIn move old r new
  no_word_passes dead fault e a h =
      bare_passes e refl (λ position. refl) refl (λ alive. let bad : true ≡ false = sym alive ∙ dead in cc)
      (no_word_adds old.rest fault e (lined_here old r s)) a h
