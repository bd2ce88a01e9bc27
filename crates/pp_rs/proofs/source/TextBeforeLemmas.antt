-- Whether a live token of the text is before a position, by the items before it.
use Rattle.std.proofs.Common.{◌≡◌, ◌∙◌, ℕ, zero, suc, ◌+◌, ◌≤◌, Bool, true, false, ◌&&◌, ◌||◌, not, if◌then◌else◌, List, [], ◌∷◌, drop, refl, ap, sym, arith}
use Rattle.pp_lexer.specs.Lexed.{Seen}
use Rattle.pp_model.specs.Blocks.{Truths, is_live}
use Rattle.pp_model.specs.Lines.{ends_line, line_length}
use Rattle.pp_model.specs.Sights.{sight_of, is_text, is_directive_hash}
use Rattle.pp_model.specs.SourceReader.{is_on_directive_line, is_live_text, has_live_text_before}
use Rattle.pp_rs.proofs.source.DirectivePlaceLemmas.{one_after, on_line_after_hash, on_line_further}
use Rattle.pp_rs.proofs.blocks.TruthLemmas.{with_truth, is_live_before}

-- a position on a directive's line, in dead text, or where no token of the text stands
on_line_none : (text on live : Bool) → on ≡ true → (text && not on && live) ≡ false
on_line_none true true live e = refl
on_line_none true false live e = cc
on_line_none false on live e = refl

dead_none : (text on live : Bool) → live ≡ false → (text && not on && live) ≡ false
dead_none true true live e = refl
dead_none true false live e = e
dead_none false on live e = refl

-- a position off such a line in live text
text_by : (text on live : Bool) → (live ≡ true → on ≡ false) → (text && not on && live) ≡ (live && text)
text_by true true true h = let bad : true ≡ false = h refl in cc
text_by true false true h = refl
text_by false on true h = refl
text_by _ _ _ h = refl

module _ (source : List Seen) (truths : Truths) where
  -- what one position more adds
  before_more : (position : ℕ) (found : Bool) → is_live_text source truths position ≡ found
      → has_live_text_before source truths (position + 1) ≡ (found || has_live_text_before source truths position)
  before_more position found e =
      let next : position + 1 ≡ suc position = omega arith in
      ap (has_live_text_before source truths) next ∙ ap (λ b. b || has_live_text_before source truths position) e

  none_more : (position : ℕ) → is_live_text source truths position ≡ false
      → has_live_text_before source truths (position + 1) ≡ has_live_text_before source truths position
  none_more position e = before_more position false e

  -- an item that is read off all directives' lines
  pub text_one : (position : ℕ) (live : Bool) → is_live source truths position ≡ live → (live ≡ true → is_on_directive_line source position ≡ false)
      → has_live_text_before source truths (position + 1) ≡ ((live && is_text (sight_of (drop position source))) || has_live_text_before source truths position)
  text_one position live is off =
      before_more position (live && is_text (sight_of (drop position source)))
      (text_by (is_text (sight_of (drop position source))) (is_on_directive_line source position) (is_live source truths position)
      (λ e. off (sym is ∙ e)) ∙ ap (λ b. b && is_text (sight_of (drop position source))) is)

  on_line_no_text : (position : ℕ) → is_on_directive_line source position ≡ true → is_live_text source truths position ≡ false
  on_line_no_text position on = on_line_none (is_text (sight_of (drop position source))) (is_on_directive_line source position)
      (is_live source truths position) on

  -- two items of which the first is the number sign of a directive
  pub text_two : (position : ℕ) (a b : Seen) (rest : List Seen) → drop position source ≡ a ∷ b ∷ rest → is_directive_hash a.item ≡ true
      → is_text (sight_of (drop position source)) ≡ false
      → has_live_text_before source truths (position + 2) ≡ has_live_text_before source truths position
  text_two position a b rest e hash quiet =
      let two : position + 2 ≡ suc position + 1 = omega arith in
      let next : suc position ≡ position + 1 = omega arith in
      ap (has_live_text_before source truths) two
      ∙ none_more (suc position) (on_line_no_text (suc position) (on_line_after_hash source position a (b ∷ rest) e hash))
      ∙ ap (has_live_text_before source truths) next
      ∙ none_more position (ap (λ text. text && not (is_on_directive_line source position) && is_live source truths position) quiet)

  line_by : (position : ℕ) (s : Seen) (rest : List Seen) (last : Bool) → is_on_directive_line source position ≡ true
      → (last ≡ false → has_live_text_before source truths (suc position + line_length rest) ≡ has_live_text_before source truths (suc position))
      → has_live_text_before source truths (position + (if last then 1 else 1 + line_length rest)) ≡ has_live_text_before source truths position
  line_by position s rest true on later = none_more position (on_line_no_text position on)
  line_by position s rest false on later =
      let next : position + (1 + line_length rest) ≡ suc position + line_length rest = omega arith in
      let one : suc position ≡ position + 1 = omega arith in
      ap (has_live_text_before source truths) next ∙ later refl ∙ ap (has_live_text_before source truths) one ∙ none_more position (on_line_no_text position on)

  -- the rest of a directive's line
  text_rest : (rest : List Seen) (position : ℕ) → drop position source ≡ rest → is_on_directive_line source position ≡ true
      → has_live_text_before source truths (position + line_length rest) ≡ has_live_text_before source truths position
  text_rest [] position e on = ap (has_live_text_before source truths) (omega arith)
  text_rest (s ∷ rest) position e on =
      line_by position s rest (ends_line s.item) on (λ within. text_rest rest (suc position) (one_after source position s rest e)
      (on_line_further source position s rest e within on))

  -- a directive's line
  pub text_line : (position : ℕ) (a b : Seen) (rest : List Seen) → drop position source ≡ a ∷ b ∷ rest → is_directive_hash a.item ≡ true
      → ends_line b.item ≡ false → is_text (sight_of (drop position source)) ≡ false
      → has_live_text_before source truths (position + (2 + line_length rest)) ≡ has_live_text_before source truths position
  text_line position a b rest e hash within quiet =
      let whole : position + (2 + line_length rest) ≡ suc (suc position) + line_length rest = omega arith in
      let two : suc (suc position) ≡ position + 2 = omega arith in
      let next = one_after source position a (b ∷ rest) e in
      ap (has_live_text_before source truths) whole
      ∙ text_rest rest (suc (suc position)) (one_after source (suc position) b rest next)
      (on_line_further source (suc position) b rest next within (on_line_after_hash source position a (b ∷ rest) e hash))
      ∙ ap (has_live_text_before source truths) two ∙ text_two position a b rest e hash quiet

-- a condition that is read later changes nothing
pub text_before_truth : (source : List Seen) (place : ℕ) (holds : Bool) (truths : Truths) (position : ℕ) → position ≤ place
    → has_live_text_before source (with_truth place holds truths) position ≡ has_live_text_before source truths position
text_before_truth source place holds truths zero h = refl
text_before_truth source place holds truths (suc position) h =
    ap (λ live. (is_text (sight_of (drop position source)) && not (is_on_directive_line source position) && live) || has_live_text_before source
    (with_truth place holds truths) position)
    (is_live_before place holds truths source position (omega (arith, h)))
    ∙ ap (λ before. is_live_text source truths position || before) (text_before_truth source place holds truths position (omega (arith, h)))
