-- What a step remembers of what it read, and what that says about a reader of the source.
use Rattle.std.proofs.Common.{◌≡◌, ◌≢◌, ◌∙◌, ℕ, suc, ◌+◌, Bool, true, false, ◌&&◌, ◌||◌, List, [], ◌∷◌, ◌++◌, take, drop, refl, ap, sym, subst, arith}
use Rattle.std.proofs.lemmas.List.{drop-drop}
use Rattle.pp_lexer.specs.Lexed.{Seen}
use Rattle.pp_lexer.specs.declared.token.Location.{Location}
use Rattle.pp_model.specs.Blocks.{Truths, is_live}
use Rattle.pp_model.specs.Lines.{line_length}
use Rattle.pp_model.specs.Sights.{sight_of, is_directive, is_text, is_directive_hash}
use Rattle.pp_model.specs.SourceReader.{has_directive, is_on_directive_line, has_live_text_before}
use Rattle.pp_model.specs.declared.directive.Directive.{Directive}
use Rattle.pp_model.specs.declared.sight.Sight.{Sight}
use Rattle.pp_model.specs.declared.sight.Sight.TheVariants as sight
use Rattle.pp_macros.specs.inner.OpenBlocks.{is_live_among}
use Rattle.pp_macros.specs.declared.blocks.OpenBlock.{OpenBlock}
use Rattle.pp_macros.specs.inner.Source.{Source, IsAfter}
use Rattle.pp_macros.specs.inner.SourceMoves.{Note, notes_text, notes_directive, directive_line}
use Rattle.pp_rs.proofs.source.DirectiveBeforeLemmas.{begins_with_hash, hash_in_front, item_adds_none, AddsDirective, IsApart, directive_further, apart_further}
use Rattle.pp_macros.proofs.work.DirectiveLineLemmas.{begins_directive, take_two}
use Rattle.pp_rs.proofs.source.DirectivePlaceLemmas.{one_after, off_line_further, off_line_after}
use Rattle.pp_rs.proofs.source.TextBeforeLemmas.{text_one, text_two, text_line}

-- a source remembers what stands before a position
pub record IsRemembered (source : Source) (items : List Seen) (truths : Truths) (position : ℕ) : Type 0 where
  pub text : source.has_text ≡ has_live_text_before items truths position
  pub directive : source.has_directive ≡ has_directive (take position items)
  pub apart : IsApart items position
  pub off_line : is_live_among source.dead_for_good source.blocks ≡ true → source.rest ≢ [] → is_on_directive_line items position ≡ false

pub begins_no_text : (shown : Sight) → begins_with_hash shown ≡ true → is_text shown ≡ false
begins_no_text (sight.Token token) h = cc
begins_no_text _ h = refl

both : (a b c d : Bool) → a ≡ b → c ≡ d → (a || c) ≡ (b || d)
both a b c d e f = ap (λ x. x || c) e ∙ ap (λ y. b || y) f

or_either : (a b c : Bool) → a ≡ b → (a || c) ≡ (c || b)
or_either true b true e = refl
or_either true b false e = e
or_either false b true e = refl
or_either false b false e = e

-- where the blocks stay, the text stays live or dead
still_live : {count : ℕ} {note : Note} {old new : Source} → IsAfter count note old.blocks old new
    → is_live_among old.dead_for_good old.blocks ≡ is_live_among new.dead_for_good new.blocks
still_live {old = old} {new = new} b =
    ap (λ (dead : Bool). is_live_among dead old.blocks) (sym b.dead_for_good) ∙ ap (is_live_among new.dead_for_good) (sym b.blocks)

module _ (old new : Source) (items : List Seen) (truths : Truths) (position : ℕ) (front : old.rest ≡ drop position items)
    (before : IsRemembered old items truths position) where
  -- a directive that was read, or none
  module _ (count : ℕ) (note : Note) (blocks : List OpenBlock) (b : IsAfter count note blocks old new)
      (found : Bool) (noted : notes_directive note ≡ found) (adds : AddsDirective count (drop position items) found) where
    directive_remembered : new.has_directive ≡ has_directive (take (position + count) items)
    directive_remembered =
        b.has_directive ∙ or_either (notes_directive note) found old.has_directive noted ∙ ap (λ h. h || found) before.directive
        ∙ sym (directive_further items position count found before.apart adds)

    apart_remembered : IsApart items (position + count)
    apart_remembered = apart_further items position count found before.apart adds

  -- an item that is no number sign of a directive
  module _ (live : Bool) (alive : is_live_among old.dead_for_good old.blocks ≡ live) (is : is_live items truths position ≡ live)
      (s : Seen) (rest : List Seen) (e : old.rest ≡ s ∷ rest) (quiet : is_directive_hash s.item ≡ false)
      (note : Note) (text : notes_text note ≡ (live && is_text (sight_of old.rest))) (none : notes_directive note ≡ false)
      (b : IsAfter 1 note old.blocks old new) where
    here : drop position items ≡ s ∷ rest
    here = sym front ∙ e

    off : live ≡ true → is_on_directive_line items position ≡ false
    off h = before.off_line (alive ∙ h) (λ nothing. cc)

    adds_none : AddsDirective 1 (drop position items) false
    adds_none after = ap (λ shown. has_directive (take 1 shown ++ after)) here ∙ item_adds_none s after quiet

    pub one_remembered : IsRemembered new items truths (position + 1)
    one_remembered =
        let shown : (live && is_text (sight_of old.rest)) ≡ (live && is_text (sight_of (drop position items))) =
        ap (λ found. live && is_text (sight_of found)) front in
        record {
          text = b.has_text ∙ both (notes_text note) (live && is_text (sight_of (drop position items))) old.has_text
              (has_live_text_before items truths position) (text ∙ shown) before.text ∙ sym (text_one items truths position live is off);
          directive = directive_remembered 1 note old.blocks b false none adds_none;
          apart = apart_remembered 1 note old.blocks b false none adds_none;
          off_line = λ there left.
              let next : position + 1 ≡ suc position = omega arith in
              let still : live ≡ true = sym alive ∙ still_live b ∙ there in
              ap (is_on_directive_line items) next ∙ off_line_further items position s rest here quiet (off still);
        }

  -- the number sign of a directive, and what stands after it: in live text the line ends there
  module _ (off : is_live_among old.dead_for_good old.blocks ≡ true → is_on_directive_line items (suc (suc position)) ≡ false) (shown : Sight) (e : sight_of old.rest ≡ shown)
      (a s : Seen) (rest : List Seen) (two : old.rest ≡ a ∷ s ∷ rest) (hash : is_directive_hash a.item ≡ true) (no_text : is_text shown ≡ false)
      (note : Note) (text : notes_text note ≡ false) (found : Bool) (noted : notes_directive note ≡ found) (adds : AddsDirective 2 old.rest found)
      (b : IsAfter 2 note old.blocks old new) where
    adds_here : AddsDirective 2 (drop position items) found
    adds_here = subst (λ (shown_items : List Seen). AddsDirective 2 shown_items found) front adds

    pub two_remembered : IsRemembered new items truths (position + 2)
    two_remembered =
        let none : is_text (sight_of (drop position items)) ≡ false = ap (λ there. is_text (sight_of there)) (sym front) ∙ ap is_text e
        ∙ no_text in
        record {
          text = b.has_text ∙ both (notes_text note) false old.has_text (has_live_text_before items truths position) text before.text
              ∙ sym (text_two items truths position a s rest (sym front ∙ two) hash none);
          directive = directive_remembered 2 note old.blocks b found noted adds_here;
          apart = apart_remembered 2 note old.blocks b found noted adds_here;
          off_line = λ there left.
              let alive : is_live_among old.dead_for_good old.blocks ≡ true = still_live b ∙ there in
              let place : position + 2 ≡ suc (suc position) = omega arith in
              ap (is_on_directive_line items) place ∙ off alive;
        }

  -- a directive's line, with a condition that was read on it or without
  module _ (directive : Directive) (word : Location) (e : sight_of old.rest ≡ sight.Directive directive word)
      (later : Truths) (same : has_live_text_before items later position ≡ has_live_text_before items truths position)
      (blocks : List OpenBlock) (b : IsAfter (2 + line_length (drop 2 old.rest)) directive_line blocks old new) where
    line_adds : AddsDirective (2 + line_length (drop 2 old.rest)) (drop position items) true
    line_adds after =
        let d = begins_directive old.rest directive word e in
        let n = line_length (drop 2 old.rest) in
        let whole : take (2 + n) (drop position items) ≡ d.hash ∷ d.name ∷ take n d.after = ap (λ there. take (2 + n) there) (sym front ∙ d.front)
        ∙ take_two n d.hash d.name d.after in
        ap (λ there. has_directive (there ++ after)) whole ∙ ap (λ shown. is_directive shown || has_directive (d.name ∷ (take n d.after ++ after)))
        (d.seen (take n d.after ++ after))

    pub line_remembered : IsRemembered new items later (position + (2 + line_length (drop 2 old.rest)))
    line_remembered =
        let d = begins_directive old.rest directive word e in
        let n = line_length (drop 2 old.rest) in
        let there : drop position items ≡ d.hash ∷ d.name ∷ d.after = sym front ∙ d.front in
        let two : drop 2 old.rest ≡ d.after = ap (drop 2) d.front in
        let hash : is_directive_hash d.hash.item ≡ true = hash_in_front d.hash (d.name ∷ d.after) (sight.Directive directive word) (d.seen d.after) refl in
        let none : is_text (sight_of (drop position items)) ≡ false = ap (λ found. is_text (sight_of found)) (sym front) ∙ ap is_text e in
        let reaches : has_live_text_before items later (position + (2 + n)) ≡ has_live_text_before items later position
        = ap (λ found. has_live_text_before items later (position + (2 + line_length found))) two
        ∙ text_line items later position d.hash d.name d.after there hash d.goes_on none in
        record {
          text = b.has_text ∙ before.text ∙ sym same ∙ sym reaches;
          directive = directive_remembered (2 + n) directive_line blocks b true refl line_adds;
          apart = apart_remembered (2 + n) directive_line blocks b true refl line_adds;
          off_line = λ alive left.
              let after_two : drop (suc (suc position)) items ≡ d.after =
              one_after items (suc position) d.name d.after (one_after items position d.hash (d.name ∷ d.after) there) in
              let place : position + (2 + n) ≡ suc (suc position) + line_length d.after = omega (arith, ap line_length two) in
              ap (is_on_directive_line items) place
              ∙ off_line_after items d.after (suc (suc position)) after_two
              (λ nothing. left (b.rest ∙ sym (drop-drop n 2 old.rest) ∙ ap (λ found. drop (line_length found) found) two ∙ nothing));
        }
