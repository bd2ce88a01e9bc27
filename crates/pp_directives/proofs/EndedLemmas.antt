-- In the items of a text each line ends: an item that doesn't end its line is followed by another.
use Rattle.std.proofs.Common.{◌≡◌, ◌≢◌, ◌∙◌, ℕ, zero, suc, Bool, true, false, List, [], ◌∷◌, ◌++◌, drop, sym, ap, refl, subst}
use Rattle.pp_lexer.specs.declared.rules.Rules.{Rules}
use Rattle.pp_lexer.specs.declared.lexer.char_iterator.Spot.{Spot}
use Rattle.pp_lexer.specs.declared.lexer.Flags.{Flags}
use Rattle.pp_lexer.specs.Lexed.{Seen, start_by, after_first_item}
use Rattle.pp_lexer.specs.inner.Passing.{passed, item_seen, newline_seen, seen_from}
use Rattle.pp_lexer.specs.Reading.{Reading}
use Rattle.pp_lexer.specs.Segments.{Kind, blank, comment, item, Segment, segments}
use Rattle.pp_lexer.proofs.items.ItemsLemmas.{start_seen}
use Rattle.pp_directives.specs.inner.Lined.{AreEnded}
use Rattle.pp_directives.proofs.LinedLemmas.{ends_with}

-- the items that a lexer with these flags gives
abbrev AreEndedFrom : Flags → List Seen → Type 0
AreEndedFrom f items = AreEnded items × (f.start_of_line ≡ false → items ≢ [])

ended_end : (spaced at_start comments : Bool) (last : Spot)
    → AreEndedFrom (record { leading_whitespace = spaced; start_of_line = at_start; had_comments = comments })
    (newline_seen (record { leading_whitespace = spaced; start_of_line = at_start; had_comments = comments }) last)
ended_end spaced true comments last = (tt, λ h. absurd (let bad : true ≡ false = h in cc))
ended_end spaced false comments last = ((λ h. absurd (let bad : true ≡ false = h in cc), tt), λ h e. cc)

ended_item : (k : Kind) (f : Flags) (g : Segment) (later : List Seen) → AreEndedFrom (passed f k) later → AreEndedFrom f (item_seen f g k ++ later)
ended_item blank f g later h = h
ended_item comment f g later h = h
ended_item (item r) f g later h = ((λ e. h.1 (sym (ends_with f g.first g.last r) ∙ e), h.0), λ e bad. cc)

ended_from : (gs : List Segment) (f : Flags) (last : Spot) → AreEndedFrom f (seen_from f last gs)
ended_from [] f last = ended_end f.leading_whitespace f.start_of_line f.had_comments last
ended_from (g ∷ gs) f last = ended_item g.kind f g (seen_from (passed f g.kind) g.last gs) (ended_from gs (passed f g.kind) g.last)

-- so they are in those of a text
pub start_ended : (rules : Rules) (ss : List Spot) → AreEnded (start_by rules ss).rest
start_ended rules ss =
    let f : Flags = record { leading_whitespace = true; start_of_line = true; had_comments = false } in
    let last : Spot = record { c = 0; line = 0; begin = 0; end = 0 } in
    let r : Reading = record { rest = ss; last = last } in
    subst AreEnded (ap (λ l. l.rest) (start_seen rules r ss last refl)) (ended_from (segments rules ss) f last).0

-- and after the first of them
pub ended_after : (items : List Seen) → AreEnded items → AreEnded (after_first_item items)
ended_after [] h = h
ended_after (s ∷ rest) h = h.1

-- and after some of them
pub ended_further : (n : ℕ) (items : List Seen) → AreEnded items → AreEnded (drop n items)
ended_further zero [] h = h
ended_further (suc n) [] h = h
ended_further zero (s ∷ rest) h = h
ended_further (suc n) (s ∷ rest) h = ended_further n rest h.1
