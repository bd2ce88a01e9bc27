-- Which positions of a source are on a directive's line, by the items there.
use Rattle.std.proofs.Common.{◌≡◌, ◌≢◌, ◌∙◌, ℕ, zero, suc, ◌+◌, Bool, true, false, ◌&&◌, ◌||◌, not, if◌then◌else◌, List, [], ◌∷◌, drop, refl, ap, sym, Some, arith}
use Rattle.std.specs.List.{slice_get}
use Rattle.std.proofs.Math.Bool.{and-false, or-true}
use Rattle.std.proofs.lemmas.List.{drop-drop}
use Rattle.pp_lexer.specs.Lexed.{Seen}
use Rattle.pp_model.specs.Lines.{ends_line, line_length}
use Rattle.pp_model.specs.Sights.{is_directive_hash}
use Rattle.pp_model.specs.SourceReader.{is_on_directive_line}
use Rattle.pp_model.proofs.source.DirectivePlaceLemmas.{end_is_no_hash}
use Rattle.pp_model.proofs.source.DirectivePlaceLemmas as place

-- the item at a position is the first one after it
pub item_here : (source : List Seen) (position : ℕ) (s : Seen) (rest : List Seen) → drop position source ≡ s ∷ rest → slice_get source position ≡ Some s
item_here [] zero s rest e = cc
item_here [] (suc position) s rest e = cc
item_here (x ∷ xs) zero s rest e = let same : x ≡ s = cc in ap Some same
item_here (x ∷ xs) (suc position) s rest e = item_here xs position s rest e

pub one_after : (source : List Seen) (position : ℕ) (s : Seen) (rest : List Seen) → drop position source ≡ s ∷ rest → drop (suc position) source ≡ rest
one_after source position s rest e =
    let next : suc position ≡ position + 1 = omega arith in
    ap (λ k. drop k source) next ∙ sym (drop-drop 1 position source) ∙ ap (drop 1) e

module _ (source : List Seen) where
  -- after an item a directive's line goes on, or begins
  pub on_line_after : (position : ℕ) (s : Seen) (rest : List Seen) → drop position source ≡ s ∷ rest
      → is_on_directive_line source (suc position) ≡ (is_directive_hash s.item || (not (ends_line s.item) && is_on_directive_line source position))
  on_line_after position s rest e = place.on_line_after source position s (item_here source position s rest e)

  -- after the number sign of a directive it has begun
  pub on_line_after_hash : (position : ℕ) (s : Seen) (rest : List Seen) → drop position source ≡ s ∷ rest → is_directive_hash s.item ≡ true
      → is_on_directive_line source (suc position) ≡ true
  on_line_after_hash position s rest e hash = on_line_after position s rest e
      ∙ ap (λ b. b || (not (ends_line s.item) && is_on_directive_line source position)) hash

  -- and it goes on after an item that doesn't end it
  pub on_line_further : (position : ℕ) (s : Seen) (rest : List Seen) → drop position source ≡ s ∷ rest → ends_line s.item ≡ false
      → is_on_directive_line source position ≡ true → is_on_directive_line source (suc position) ≡ true
  on_line_further position s rest e within on = on_line_after position s rest e
      ∙ ap (λ last. is_directive_hash s.item || (not last && is_on_directive_line source position)) within
      ∙ ap (λ now. is_directive_hash s.item || now) on ∙ or-true (is_directive_hash s.item)

  -- after the end of a line none goes on
  pub off_line_after_end : (position : ℕ) (s : Seen) (rest : List Seen) → drop position source ≡ s ∷ rest → ends_line s.item ≡ true
      → is_on_directive_line source (suc position) ≡ false
  off_line_after_end position s rest e last =
      on_line_after position s rest e
      ∙ ap (λ hash. hash || (not (ends_line s.item) && is_on_directive_line source position)) (end_is_no_hash s.item last)
      ∙ ap (λ end. not end && is_on_directive_line source position) last

  -- nor after an item of a line that has none
  pub off_line_further : (position : ℕ) (s : Seen) (rest : List Seen) → drop position source ≡ s ∷ rest → is_directive_hash s.item ≡ false
      → is_on_directive_line source position ≡ false → is_on_directive_line source (suc position) ≡ false
  off_line_further position s rest e quiet on = on_line_after position s rest e
      ∙ ap (λ hash. hash || (not (ends_line s.item) && is_on_directive_line source position)) quiet
      ∙ ap (λ now. not (ends_line s.item) && now) on ∙ and-false (not (ends_line s.item))

  off_by : (position : ℕ) (s : Seen) (rest : List Seen) (last : Bool) → drop position source ≡ s ∷ rest → ends_line s.item ≡ last
      → (drop (line_length rest) rest ≢ [] → is_on_directive_line source (suc position + line_length rest) ≡ false)
      → drop (if last then 1 else 1 + line_length rest) (s ∷ rest) ≢ []
      → is_on_directive_line source (position + (if last then 1 else 1 + line_length rest)) ≡ false
  off_by position s rest true e is later left =
      let next : position + 1 ≡ suc position = omega arith in
      ap (is_on_directive_line source) next ∙ off_line_after_end position s rest e is
  off_by position s rest false e is later left =
      let next : position + (1 + line_length rest) ≡ suc position + line_length rest = omega arith in
      let more : 1 + line_length rest ≡ suc (line_length rest) = omega arith in
      ap (is_on_directive_line source) next ∙ later (λ none. left (ap (λ k. drop k (s ∷ rest)) more ∙ none))

  -- a line that is read to its end leaves no directive's line, where something is left after it
  pub off_line_after : (rest : List Seen) (position : ℕ) → drop position source ≡ rest → drop (line_length rest) rest ≢ []
      → is_on_directive_line source (position + line_length rest) ≡ false
  off_line_after [] position e left = absurd (left refl)
  off_line_after (s ∷ rest) position e left =
      off_by position s rest (ends_line s.item) e refl (off_line_after rest (suc position) (one_after source position s rest e)) left
