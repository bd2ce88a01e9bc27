-- What is in front of a text depends on the items up to the end of its first line alone.
use Rattle.std.proofs.Common.{◌≡◌, ◌∙◌, ℕ, zero, suc, ◌<◌, Bool, true, false, ◌||◌, List, [], ◌∷◌, ◌++◌, drop, length, refl, sym, arith}
use Rattle.std.specs.Prelude.{Ok, Err}
use Rattle.std.specs.List.{list_any}
use Rattle.std.proofs.lemmas.Bool.{or_right}
use Rattle.std.proofs.Math.Bool.{or-false}
use Rattle.pp_lexer.specs.Items.{Lexeme}
use Rattle.pp_lexer.specs.Lexed.{Seen}
use Rattle.pp_model.specs.IncludeLaws.{are_whole_lines}
use Rattle.pp_model.specs.Lines.{ends_line}
use Rattle.pp_model.specs.Sights.{token_sight, sight_from, sight_of}
use Rattle.pp_model.specs.declared.sight.Sight.TheVariants as sight

-- a line ends among these items
abbrev pub has_line : List Seen → Bool
has_line rest = list_any (λ s. ends_line s.item) rest

-- the same as a fact
abbrev pub HasLine : List Seen → Type 0
HasLine rest = has_line rest ≡ true

-- an item that doesn't end the line has the line's end after it
pub stays_before : (ends later : Bool) → ends ≡ false → ends || later ≡ true → later ≡ true
stays_before true later stays h = cc
stays_before false later stays h = h

-- whole lines have a line from each of their items on
pub line_from : (items : List Seen) (i : ℕ) → are_whole_lines items ≡ true → i < length items → HasLine (drop i items)
line_from [] i whole h = absurd (omega arith)
line_from (s ∷ []) zero whole h = or-false (ends_line s.item) ∙ whole
line_from (s ∷ []) (suc i) whole h = absurd (omega arith)
line_from (s ∷ t ∷ rest) zero whole h =
    or_right (ends_line s.item) (has_line (t ∷ rest)) (line_from (t ∷ rest) zero whole (omega arith))
line_from (s ∷ t ∷ rest) (suc i) whole h = line_from (t ∷ rest) i whole (omega arith)

-- the end of a line is seen as such
ends_seen : (item : Lexeme) (rest : List Seen) → ends_line item ≡ true → sight_from (λ token. token_sight token rest) item ≡ sight.NewLine
ends_seen (Ok token) rest h = rw h refl
ends_seen (Err fault) rest h = cc

-- an item that is a line by itself is its end
pub shown_newline : (s : Seen) (rest : List Seen) → HasLine (s ∷ []) → sight_of (s ∷ rest) ≡ sight.NewLine
shown_newline s rest h = ends_seen s.item rest (sym (or-false (ends_line s.item)) ∙ h)

-- what stands in front is seen by its line
pub sight_front : (rest more : List Seen) → HasLine rest → sight_of (rest ++ more) ≡ sight_of rest
sight_front [] more h = cc
sight_front (s ∷ []) more h = rw (shown_newline s more h, shown_newline s [] h) refl
sight_front (s ∷ t ∷ rest) more h = refl
