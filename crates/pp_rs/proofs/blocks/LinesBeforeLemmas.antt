-- The lines of blocks before a position, and how the items after it add to them.
use Rattle.std.proofs.Common.{◌≡◌, ◌∙◌, ℕ, ◌+◌, List, [], ◌∷◌, ◌++◌, take, drop, refl, ap, sym, append-nil, append_assoc, Option, Some, None, arith}
use Rattle.std.specs.List.{cons_option}
use Rattle.std.proofs.Math.Seq.{take-add}
use Rattle.pp_lexer.specs.Lexed.{Seen}
use Rattle.pp_lexer.specs.declared.token.Location.{Location}
use Rattle.pp_model.specs.Lines.{line_length}
use Rattle.pp_model.specs.Sights.{sight_of}
use Rattle.pp_model.specs.Blocks.{part_of, line_at, block_lines}
use Rattle.pp_model.specs.inner.Blocks.{line_with}
use Rattle.pp_model.specs.declared.block.BlockLine.{BlockLine}
use Rattle.pp_model.specs.declared.directive.Directive.{Directive}
use Rattle.pp_model.specs.declared.sight.Sight.TheVariants as sight
use Rattle.pp_macros.proofs.work.QuietLemmas.{quiet_item}
use Rattle.pp_macros.proofs.work.DirectiveLineLemmas.{begins_directive, take_two}
use Rattle.pp_rs.proofs.blocks.BlockStepLemmas.{AddsLine}

-- these lines of blocks stand before the position, whatever stands after it
abbrev pub AreLinesBefore : List Seen → ℕ → List BlockLine → Type 0
AreLinesBefore source position lines = (after : List Seen) → block_lines 0 (take position source ++ after) ≡ lines ++ block_lines position after

-- so many items add these lines, whatever stands after them
abbrev pub AddsLines : ℕ → ℕ → List Seen → List BlockLine → Type 0
AddsLines position count items lines = (after : List Seen) → block_lines position (take count items ++ after) ≡ lines ++ block_lines (position + count) after

-- at the start none stands before
pub no_lines_before : (source : List Seen) → AreLinesBefore source 0 []
no_lines_before source after = refl

-- the lines of blocks before the position are these
pub lines_here : (source : List Seen) (position : ℕ) (lines : List BlockLine) → AreLinesBefore source position lines
    → block_lines 0 (take position source) ≡ lines
lines_here source position lines before = ap (block_lines 0) (sym (append-nil (take position source))) ∙ before [] ∙ append-nil lines

-- before a position further on stand those lines too that the items up to there add
pub lines_further : (source : List Seen) (position count : ℕ) (lines more : List BlockLine) → AreLinesBefore source position lines
    → AddsLines position count (drop position source) more
    → AreLinesBefore source (position + count) (lines ++ more)
lines_further source position count lines more before adds after =
    ap (λ items. block_lines 0 (items ++ after)) (take-add position count source)
    ∙ ap (block_lines 0) (append_assoc (take position source) (take count (drop position source)) after)
    ∙ before (take count (drop position source) ++ after)
    ∙ ap (λ later. lines ++ later) (adds after)
    ∙ sym (append_assoc lines more (block_lines (position + count) after))

-- where they add one line, it is the only one up to there
pub adds_one : (source : List Seen) (line : BlockLine) (count : ℕ) (lines : List BlockLine) → AreLinesBefore source line.position lines
    → AddsLines line.position count (drop line.position source) (line ∷ [])
    → AddsLine source line (line.position + count)
adds_one source line count lines before adds =
    lines_here source (line.position + count) (lines ++ line ∷ []) (lines_further source line.position count lines (line ∷ []) before adds)
    ∙ ap (λ earlier. earlier ++ line ∷ []) (sym (lines_here source line.position lines before))

-- the items up to the end of the line add no line of a block
abbrev pub IsQuietRest : List Seen → Type 0
IsQuietRest rest = (position : ℕ) → AddsLines position (line_length rest) rest []

added : (found : Option BlockLine) (later : List BlockLine) → cons_option found later ≡ cons_option found [] ++ later
added (Some line) later = refl
added None later = refl

-- a directive's line adds the line of a block that its word says, if any, and no other
pub directive_adds : (position : ℕ) (rest : List Seen) (directive : Directive) (word : Location) → sight_of rest ≡ sight.Directive directive word
    → IsQuietRest (drop 2 rest)
    → AddsLines position (2 + line_length (drop 2 rest)) rest (cons_option (line_with position word (part_of directive)) [])
directive_adds position rest directive word e quiet after =
    let b = begins_directive rest directive word e in
    let n = line_length (drop 2 rest) in
    let same : drop 2 rest ≡ b.after = ap (λ items. drop 2 items) b.front in
    let whole : take (2 + n) rest ≡ b.hash ∷ b.name ∷ take n b.after = ap (λ items. take (2 + n) items) b.front ∙ take_two n b.hash b.name b.after in
    ap (λ items. block_lines position (items ++ after)) whole
    ∙ ap (λ shown. cons_option (line_at position shown) (block_lines (position + 1) (b.name ∷ (take n b.after ++ after)))) (b.seen (take n b.after ++ after))
    ∙ added (line_with position word (part_of directive)) (block_lines (position + 1) (b.name ∷ (take n b.after ++ after)))
    ∙ ap (λ later. cons_option (line_with position word (part_of directive)) [] ++ later)
    (quiet_item (position + 1) b.name (take n b.after ++ after) b.plain ∙ ap (λ items. block_lines (position + 1 + 1) (take n items ++ after)) (sym same)
    ∙ quiet (position + 1 + 1) after ∙ ap (λ p. block_lines p after) (omega arith))
