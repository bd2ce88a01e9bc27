-- The flags of a lexer tell whether the next token begins its line.
use Rattle.std.proofs.Common.{◌≡◌, Bool, true, false, List, [], ◌∷◌, ◌++◌, refl}
use Rattle.std.specs.Prelude.{Ok, Err, IfOk, IfSome}
use Rattle.pp_lexer.specs.Lexed.{Seen, first_item}
use Rattle.pp_lexer.specs.Segments.{Kind, blank, comment, item, Segment}
use Rattle.pp_lexer.specs.declared.lexer.Flags.{Flags}
use Rattle.pp_lexer.specs.declared.lexer.char_iterator.Spot.{Spot}
use Rattle.pp_lexer.specs.inner.Passing.{passed, item_seen, newline_seen, seen_from}

-- the first of these items, if it is a token, begins its line or doesn't
abbrev Begins : Bool → List Seen → Type 0
Begins at_start items = IfSome (first_item items) (λ first. IfOk first (λ token. token.start_of_line ≡ at_start))

end_begins : (at_start spaced comments : Bool) (last : Spot)
    → Begins at_start (newline_seen (record { leading_whitespace = spaced; start_of_line = at_start; had_comments = comments }) last)
end_begins true spaced comments last = tt
end_begins false spaced comments last = refl

item_begins : (k : Kind) (f : Flags) (g : Segment) (later : List Seen) → Begins (passed f k).start_of_line later
    → Begins f.start_of_line (item_seen f g k ++ later)
item_begins blank f g later h = h
item_begins comment f g later h = h
item_begins (item (Ok value)) f g later h = refl
item_begins (item (Err fault)) f g later h = tt

pub first_begins : (gs : List Segment) (f : Flags) (last : Spot) → Begins f.start_of_line (seen_from f last gs)
first_begins [] f last = end_begins f.start_of_line f.leading_whitespace f.had_comments last
first_begins (g ∷ gs) f last =
    item_begins g.kind f g (seen_from (passed f g.kind) g.last gs) (first_begins gs (passed f g.kind) g.last)

-- where nothing is left, the last item ended its line
pub none_within : (at_start spaced comments : Bool) (last : Spot)
    → newline_seen (record { leading_whitespace = spaced; start_of_line = at_start; had_comments = comments }) last ≡ [] → at_start ≡ true
none_within true spaced comments last e = refl
none_within false spaced comments last e = cc

none_after : (k : Kind) (f : Flags) (g : Segment) (later : List Seen) → (later ≡ [] → (passed f k).start_of_line ≡ true)
    → item_seen f g k ++ later ≡ [] → f.start_of_line ≡ true
none_after blank f g later h e = h e
none_after comment f g later h e = h e
none_after (item r) f g later h e = cc

pub end_over : (gs : List Segment) (f : Flags) (last : Spot) → seen_from f last gs ≡ [] → f.start_of_line ≡ true
end_over [] f last e = none_within f.start_of_line f.leading_whitespace f.had_comments last e
end_over (g ∷ gs) f last e =
    none_after g.kind f g (seen_from (passed f g.kind) g.last gs) (end_over gs (passed f g.kind) g.last) e
