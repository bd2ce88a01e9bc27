-- The symbols of a directive's line, and an expression at their front (GLSL ES 3.20 section 3.4). The reading of the
-- line may end in a fault after these symbols, such as a macro call without its `)`. The fault has no effect on an
-- expression that is known to end before it.
use Rattle.std.specs.Prelude.{◌≡◌, ℕ, ◌≤◌, Bool, false, nat_le, List, [], ◌∷◌, ◌++◌, Option, Some, None, Result, Ok}
use Rattle.std.specs.Prelude.{Err, IsOk, ℤ}
use Rattle.std.specs.Option.{option_map_or}
use Rattle.pp_expression.specs.declared.symbol.Symbol.{Symbol}
use Rattle.pp_expression.specs.declared.symbol.Symbol.TheVariants as symbol
use Rattle.pp_expression.specs.declared.symbol.ExpressionFault.{ExpressionFault}
use Rattle.pp_expression.specs.Operators.{binary_of, level_of}
use Rattle.pp_expression.specs.Trees.{Tree, spelling, Fits, value}

-- the symbols still to come, and the fault that ends their reading, if one does
pub record Line : Type 0 where
  pub symbols : List Symbol
  pub ending : Option ExpressionFault

-- the line begins with these symbols, and the rest is the line after them
pub record Begins (line : Line) (front : List Symbol) (rest : Line) : Type 0 where
  pub symbols : line.symbols ≡ front ++ rest.symbols
  pub ending : rest.ending ≡ line.ending

-- the first symbol; at the end none, or the fault that ends the reading
abbrev pub next_of : List Symbol → Option ExpressionFault → Result (Option Symbol) ExpressionFault
next_of (first ∷ others) ending = Ok (Some first)
next_of [] None = Ok None
next_of [] (Some kind) = Err kind

-- the next symbol, none at the end, or the fault of reading it
abbrev pub next : Line → Result (Option Symbol) ExpressionFault
next line = next_of line.symbols line.ending

-- the symbol is an operator between operands that binds at least as tightly as level
abbrev pub continues : ℕ → Symbol → Bool
continues level (symbol.Punct punct) =
    option_map_or (λ operator. nat_le level (level_of operator)) (binary_of punct) false
continues level _ = false

-- the symbols begin with such an operator
abbrev pub goes_on : ℕ → List Symbol → Bool
goes_on level [] = false
goes_on level (first ∷ others) = continues level first

-- An expression of the level ends before the line: it is known what comes next, and that is no operator between
-- operands that binds at least as tightly as `level`. An operand alone, which has level 10, ends without a look at what
-- comes next.
pub record Stops (level : ℕ) (line : Line) : Type 0 where
  pub known : level ≤ 9 → IsOk (next line)
  pub over : goes_on level line.symbols ≡ false

-- The line `old` begins with a tree of the level, which has this value; `new` is the line after it, and the tree ends
-- there. `stop` is the tree's level, or for a left operand the next tighter one, since an operator of its level may
-- follow.
pub record Reads (level stop : ℕ) (old new : Line) (number : ℤ) : Type 0 where
  pub tree : Tree
  pub begins : Begins old (spelling tree) new
  pub fits : Fits level tree
  pub valued : value tree ≡ Ok number
  pub stops : Stops stop new
