-- Where a block is open, a directive is before.
use Rattle.std.proofs.Common.{◌≡◌, ◌≢◌, ◌∙◌, ℕ, ◌+◌, Bool, true, false, ◌||◌, List, [], ◌∷◌, take, refl, ap, None}
use Rattle.std.specs.List.{cons_option}
use Rattle.pp_lexer.specs.Lexed.{Seen}
use Rattle.pp_model.specs.Blocks.{line_at, block_lines, open_blocks, blocks_at}
use Rattle.pp_model.specs.Sights.{sight_of, is_directive}
use Rattle.pp_model.specs.SourceReader.{has_directive}
use Rattle.pp_model.specs.declared.block.BlockLine.{BlockLine}
use Rattle.pp_model.specs.declared.sight.Sight.{Sight}
use Rattle.pp_model.specs.declared.sight.Sight.TheVariants as sight

-- what is no directive is no line of a block
no_line : (position : ℕ) (shown : Sight) → is_directive shown ≡ false → line_at position shown ≡ None
no_line position (sight.Directive directive word) e = cc
no_line position _ e = refl

line_or_later : (position : ℕ) (shown : Sight) (found : Bool) (lines : List BlockLine) (later : Bool) → is_directive shown ≡ found
    → cons_option (line_at position shown) lines ≢ [] → (lines ≢ [] → later ≡ true) → found || later ≡ true
line_or_later position shown true lines later is some more = refl
line_or_later position shown false lines later is some more =
    more (λ none. some (ap (λ line. cons_option line lines) (no_line position shown is) ∙ none))

-- a line of a block is a directive
lines_noted : (position : ℕ) (items : List Seen) → block_lines position items ≢ [] → has_directive items ≡ true
lines_noted position [] some = absurd (some refl)
lines_noted position (s ∷ rest) some =
    line_or_later position (sight_of (s ∷ rest)) (is_directive (sight_of (s ∷ rest))) (block_lines (position + 1) rest) (has_directive rest) refl some
    (lines_noted (position + 1) rest)

-- so one is before a position where a block is open
pub open_noted : (items : List Seen) (position : ℕ) → blocks_at items position ≢ [] → has_directive (take position items) ≡ true
open_noted items position some = lines_noted 0 (take position items) (λ none. some (ap open_blocks none))
