-- Laws of blocks: of a block's branches at most one is live, and dead text gives no token and no definition.
use Rattle.std.specs.Prelude.{◌≡◌, ℕ, ◌≤◌, ⊤, true, false, List, [], ◌∷◌, ◌++◌, length, take}
use Rattle.pp_lexer.specs.declared.token.Location.{Location}
use Rattle.pp_lexer.specs.declared.token.Token.{Token}
use Rattle.pp_model.specs.Blocks.{Truths, Block, is_else, is_last_chosen, has_taken_branch, is_live}
use Rattle.pp_model.specs.SourceReader.{SourceReader}
use Rattle.pp_model.specs.Acts.{Acted, act}
use Rattle.pp_model.specs.declared.block.BlockLine.{BlockLine}
use Rattle.pp_model.specs.declared.definition.Named.{Named}
use Rattle.pp_model.specs.declared.outcome.IncludeLine.{IncludeLine}
use Rattle.pp_model.specs.declared.outcome.Outcome.TheVariants as outcome
use Rattle.pp_model.specs.declared.step.Step.TheVariants as step

-- no mark comes after an `#else`; one that does is a fault at its own place
abbrev pub ElseIsLast : List BlockLine → Type 0
ElseIsLast [] = ⊤
ElseIsLast (mark ∷ []) = ⊤
ElseIsLast (mark ∷ next ∷ later) = (is_else mark.part ≡ false) × ElseIsLast (next ∷ later)

-- Of a block's marks at most one is chosen: mark 0 is its first line, and mark `k` is the last of its first `k`
-- partings.
abbrev pub OneBranch : Type 0
OneBranch =
    (truths : Truths) (block : Block) (k n : ℕ)
    → ElseIsLast (block.first ∷ block.partings)
    → k ≤ length block.partings
    → n ≤ length block.partings
    → is_last_chosen truths block.first (take k block.partings) ≡ true
    → is_last_chosen truths block.first (take n block.partings) ≡ true
    → k ≡ n

-- After a branch that was taken no other is: the next mark is not chosen.
abbrev pub NoneAfterTaken : Type 0
NoneAfterTaken =
    (truths : Truths) (block : Block) (mark : BlockLine)
    → ElseIsLast (block.first ∷ (block.partings ++ (mark ∷ [])))
    → has_taken_branch truths block ≡ true
    → is_last_chosen truths block.first (block.partings ++ (mark ∷ [])) ≡ false

-- The act gives no token, asks for no text, defines nothing and numbers no line, and leaves the definitions and, in the
-- same text, what is added to a line.
pub record GivesNothing (r : SourceReader) (a : Acted) : Type 0 where
  pub no_token : (token : Token) → a.step ≡ step.Given (outcome.Token token) → ⊥
  pub no_include : (line : IncludeLine) → a.step ≡ step.Given (outcome.Include line) → ⊥
  pub no_define : (named : Named) → a.step ≡ step.Defines named → ⊥
  pub no_line_number : (word : Location) (tokens : List Token) → a.step ≡ step.LineNumber word tokens → ⊥
  pub same_definitions : a.after.definitions ≡ r.definitions
  pub same_lines : a.after.around ≡ r.around → a.after.line_offset ≡ r.line_offset

-- What is in dead text gives nothing, except for errors and the end.
abbrev pub DeadTextGivesNothing : Type 0
DeadTextGivesNothing = (r : SourceReader) → is_live r.items r.truths r.position ≡ false → GivesNothing r (act r)
