-- A directive begins a line: in the items of a text its number sign comes first, or right after the end of a line.
use Rattle.std.proofs.Common.{◌≡◌, ℕ, zero, suc, ◌+◌, Bool, true, false, ◌&&◌, ◌||◌, List, [], ◌∷◌, ◌++◌, map, take, drop, refl, subst, sym, arith, if◌then◌else◌, None}
use Rattle.std.specs.Prelude.{not, Result, Ok, Err}
use Rattle.pp_lexer.specs.Items.{Lexeme, Item, item_at, final_newline, start_of_line}
use Rattle.pp_lexer.specs.Lexed.{Seen, seen}
use Rattle.pp_lexer.specs.Segments.{Kind, Segment, segments}
use Rattle.pp_lexer.specs.Segments as segment
use Rattle.pp_lexer.specs.Spots.{spots_of}
use Rattle.pp_lexer.specs.declared.lexer.item.TokenValue.TheVariants.{Hash, NewLine}
use Rattle.pp_lexer.specs.declared.rules.Rules.{Rules}
use Rattle.pp_lexer.specs.declared.token.Location.{Location}
use Rattle.pp_lexer.specs.declared.token.Token.{Token}
use Rattle.pp_lexer.proofs.items.ItemsLemmas.{items_from, items_at_start}
use Rattle.pp_model.specs.Blocks.{line_at, block_lines}
use Rattle.pp_model.specs.Conversions.{is_newline, is_hash, conversion}
use Rattle.pp_model.specs.Lines.{ends_line, line_length}
use Rattle.pp_model.specs.Places.{Fault}
use Rattle.pp_model.specs.Run.{items_by}
use Rattle.pp_model.specs.Sights.{sight_from, token_sight, is_directive_hash}
use Rattle.pp_model.specs.declared.sight.Sight.{Sight}
use Rattle.pp_model.specs.declared.sight.Sight.TheVariants as sight
use Rattle.pp_model.proofs.including.BlockLinesLemmas.{alone}

-- each of these items that begins a directive comes right after the end of a line, or first, if `at_start`
abbrev pub begin_lines : Bool → List Seen → Bool
begin_lines at_start [] = true
begin_lines at_start (s ∷ rest) = (not (is_directive_hash s.item) || at_start) && begin_lines (ends_line s.item) rest

-- ---- the items of a text

-- the newline that is added at the end
final_begins : (before : List Segment) → begin_lines (start_of_line before) (map seen (final_newline before)) ≡ true
final_begins [] = refl
final_begins (g ∷ before) = by_start (start_of_line (g ∷ before)) refl
  where
    by_start : (b : Bool) → start_of_line (g ∷ before) ≡ b
        → begin_lines (start_of_line (g ∷ before)) (map seen (final_newline (g ∷ before))) ≡ true
    by_start true is = rw is refl
    by_start false is = rw is refl

-- a number sign whose flag says where it stands
by_flag : (b later : Bool) → later ≡ true → (not b || b) && later ≡ true
by_flag true later h = h
by_flag false later h = h

-- the item of a segment, and the items after it
segment_begins : (before : List Segment) (g : Segment) (k : Kind) (rest : List Item) → g.kind ≡ k
    → begin_lines (start_of_line (g ∷ before)) (map seen rest) ≡ true
    → begin_lines (start_of_line before) (map seen (item_at before g k ++ rest)) ≡ true
segment_begins before g segment.blank rest is h = rw is at h
segment_begins before g segment.comment rest is h = rw is at h
segment_begins before g (segment.item (Ok Hash)) rest is h = by_flag (start_of_line before) (begin_lines false (map seen rest)) (rw is at h)
segment_begins before g (segment.item (Ok NewLine)) rest is h = rw is at h
segment_begins before g (segment.item (Ok value)) rest is h = rw is at h
segment_begins before g (segment.item (Err error)) rest is h = rw is at h

items_begin_from : (before gs : List Segment) → begin_lines (start_of_line before) (map seen (items_from before gs)) ≡ true
unfolding items_from
items_begin_from before [] = final_begins before
items_begin_from before (g ∷ gs) = segment_begins before g g.kind (items_from (g ∷ before) gs) refl (items_begin_from (g ∷ before) gs)

-- so it is of the items of each text
pub items_begin_lines : (rules : Rules) (text : List ℕ) → begin_lines true (items_by rules text) ≡ true
items_begin_lines rules text =
    subst (λ items. begin_lines true (map seen items) ≡ true) (sym (items_at_start rules (spots_of text)))
    (items_begin_from [] (segments rules (spots_of text)))

-- ---- the rest of a line

-- both of two tests hold
first_of_both : (x y : Bool) → x && y ≡ true → x ≡ true
first_of_both true y h = refl
first_of_both false y h = h

second_of_both : (x y : Bool) → x && y ≡ true → y ≡ true
second_of_both true y h = h
second_of_both false y h = cc

-- what begins a line only at its start begins none elsewhere
none_elsewhere : (hash : Bool) → not hash || false ≡ true → hash ≡ false
none_elsewhere true h = cc
none_elsewhere false h = refl

-- the items after one of them begin lines, too
pub begin_lines_after : (n : ℕ) (at_start : Bool) (items : List Seen) (s : Seen) (rest : List Seen) → begin_lines at_start items ≡ true
    → drop n items ≡ s ∷ rest → begin_lines (ends_line s.item) rest ≡ true
begin_lines_after zero at_start [] s rest h e = cc
begin_lines_after zero at_start (t ∷ items) s rest h e =
    let item : t ≡ s = cc in
    let later : items ≡ rest = cc in
    rw (sym item, sym later) (second_of_both (not (is_directive_hash t.item) || at_start) (begin_lines (ends_line t.item) items) h)
begin_lines_after (suc n) at_start [] s rest h e = cc
begin_lines_after (suc n) at_start (t ∷ items) s rest h e =
    begin_lines_after n (ends_line t.item) items s rest
    (second_of_both (not (is_directive_hash t.item) || at_start) (begin_lines (ends_line t.item) items) h) e

-- what begins no directive is no line of a block
quiet_token : (position : ℕ) (newline hash at_start : Bool) (named : Sight) (place : Location) (text : Result Token Fault) → hash && at_start ≡ false
    → line_at position (if newline then sight.NewLine else if hash then (if at_start then named else sight.Hash place) else sight_from sight.Token text)
    ≡ None
quiet_token position true hash at_start named place text h = refl
quiet_token position false true true named place text h = cc
quiet_token position false true false named place text h = refl
quiet_token position false false at_start named place (Ok token) h = refl
quiet_token position false false at_start named place (Err fault) h = refl

quiet_item : (position : ℕ) (item : Lexeme) (rest : List Seen) → is_directive_hash item ≡ false
    → line_at position (sight_from (λ token. token_sight token rest) item) ≡ None
quiet_item position (Ok token) rest h =
    quiet_token position (is_newline token.value) (is_hash token.value) token.start_of_line _ token.location (conversion token) h
quiet_item position (Err fault) rest h = refl

-- so up to the end of a line no line of a block begins after its first item
pub line_quiet : (position : ℕ) (rest : List Seen) → begin_lines false rest ≡ true → block_lines position (take (line_length rest) rest) ≡ []
line_quiet position [] h = refl
line_quiet position (s ∷ rest) h = by (ends_line s.item) refl (line_quiet (position + 1) rest)
  where
    hashless : is_directive_hash s.item ≡ false
    hashless = none_elsewhere (is_directive_hash s.item) (first_of_both (not (is_directive_hash s.item) || false) (begin_lines (ends_line s.item) rest) h)

    later : begin_lines (ends_line s.item) rest ≡ true
    later = second_of_both (not (is_directive_hash s.item) || false) (begin_lines (ends_line s.item) rest) h

    by : (ends : Bool) → ends_line s.item ≡ ends → (begin_lines false rest ≡ true → block_lines (position + 1) (take (line_length rest) rest) ≡ [])
        → block_lines position (take (if ends then 1 else 1 + line_length rest) (s ∷ rest)) ≡ []
    by true is quiet = alone position s
    by false is quiet =
        let one : 1 + line_length rest ≡ suc (line_length rest) = omega arith in
        rw (one, quiet_item position s.item (take (line_length rest) rest) hashless, quiet (rw is at later)) refl
