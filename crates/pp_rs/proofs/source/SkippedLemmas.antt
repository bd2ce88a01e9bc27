-- A line that is skipped adds no line of a block after its directive's word, no matter which tokens and errors are on
-- it.
use Rattle.std.proofs.Common.{◌≡◌, ◌∙◌, ℕ, ◌+◌, Bool, true, false, if◌then◌else◌, List, [], ◌∷◌, ◌++◌, take, drop, refl, ap, sym, subst, None, arith}
use Rattle.std.specs.List.{cons_option}
use Rattle.pp_lexer.specs.Lexed.{Seen}
use Rattle.pp_lexer.specs.declared.token.Location.{Location}
use Rattle.pp_model.specs.Blocks.{line_at, block_lines}
use Rattle.pp_model.specs.Lines.{ends_line, line_length}
use Rattle.pp_model.specs.Sights.{sight_of, is_directive_hash}
use Rattle.pp_model.specs.declared.directive.Directive.{Directive}
use Rattle.pp_model.specs.declared.sight.Sight.{Sight}
use Rattle.pp_model.specs.declared.sight.Sight.TheVariants as sight
use Rattle.pp_directives.specs.inner.Lined.{BeginsNoDirective, AreLined}
use Rattle.pp_macros.proofs.work.QuietLemmas.{quiet_item, take_more, IsQuietLine, BeginsBare}
use Rattle.pp_macros.proofs.work.DirectiveLineLemmas.{begins_directive}

quiet_first : (position : ℕ) (s : Seen) (rest after : List Seen) (last : Bool) → ends_line s.item ≡ last → is_directive_hash s.item ≡ false
    → (ends_line s.item ≡ false → IsQuietLine (position + 1) rest after (line_length rest))
    → IsQuietLine position (s ∷ rest) after (if last then 1 else 1 + line_length rest)
quiet_first position s rest after true e quiet later = quiet_item position s after quiet
quiet_first position s rest after false e quiet later =
    ap (λ items. block_lines position (items ++ after)) (take_more (line_length rest) s rest)
    ∙ quiet_item position s (take (line_length rest) rest ++ after) quiet ∙ later e
    ∙ ap (λ p. block_lines p after) (omega arith)

-- up to the line's end nothing adds a line of a block, where no directive begins in front
pub quiet_up_to_end : (position : ℕ) (rest after : List Seen) → BeginsNoDirective rest → AreLined rest
    → block_lines position (take (line_length rest) rest ++ after) ≡ block_lines (position + line_length rest) after
quiet_up_to_end position [] after quiet lined = ap (λ p. block_lines p after) (omega arith)
quiet_up_to_end position (s ∷ rest) after quiet lined =
    quiet_first position s rest after (ends_line s.item) refl quiet (λ e. quiet_up_to_end (position + 1) rest after (lined.0 e) lined.1)

-- a number sign and a token after it that is no word add no line of a block
pub bare_quiet : (position : ℕ) {rest : List Seen} {shown : Sight} (b : BeginsBare shown rest) → ((k : ℕ) → line_at k shown ≡ None) → AreLined rest
    → (later : List Seen)
    → block_lines position (b.hash ∷ b.name ∷ later) ≡ block_lines (position + 2) later
bare_quiet position b none lined later =
    let there : AreLined (b.hash ∷ b.name ∷ b.after) = subst AreLined b.front lined in
    ap (λ found. cons_option (line_at position found) (block_lines (position + 1) (b.name ∷ later))) (b.seen later)
    ∙ ap (λ line. cons_option line (block_lines (position + 1) (b.name ∷ later))) (none position)
    ∙ quiet_item (position + 1) b.name later (there.0 b.goes_on) ∙ ap (λ n. block_lines n later) (omega arith)

-- nor do the items after a directive's word, up to the end of its line
pub quiet_after_word : (position : ℕ) (rest after : List Seen) (directive : Directive) (word : Location)
    → sight_of rest ≡ sight.Directive directive word → AreLined rest
    → block_lines position (take (line_length (drop 2 rest)) (drop 2 rest) ++ after) ≡ block_lines (position + line_length (drop 2 rest)) after
quiet_after_word position rest after directive word e lined =
    let b = begins_directive rest directive word e in
    let there : AreLined (b.hash ∷ b.name ∷ b.after) = subst AreLined b.front lined in
    subst (λ items. IsQuietLine position items after (line_length items)) (sym (ap (λ items. drop 2 items) b.front))
    (quiet_up_to_end position b.after after (there.1.0 b.goes_on) there.1.1)
