-- Operators of one level, as a parser with a function for each level reads them.
use Rattle.std.specs.Prelude.{ℕ, ◌==◌, if◌then◌else◌, Option, Some, None, Result, Ok}
use Rattle.pp_expression.specs.declared.operator.Binary.{Binary}
use Rattle.pp_expression.specs.declared.symbol.Symbol.{Symbol}
use Rattle.pp_expression.specs.declared.symbol.Symbol.TheVariants as symbol
use Rattle.pp_expression.specs.declared.symbol.ExpressionFault.{ExpressionFault}
use Rattle.pp_expression.specs.Operators.{binary_of, level_of}
use Rattle.pp_expression.specs.Answers.{◌>>=◌}
use Rattle.pp_expression.specs.Lines.{Line, next}

-- the operator, if it is of the level
abbrev pub of_level : ℕ → Option Binary → Option Binary
of_level level (Some operator) = if level_of operator == level then Some operator else None
of_level level None = None

-- the operator between operands that a symbol is, if it is of the level
abbrev pub operator_of : ℕ → Option Symbol → Option Binary
operator_of level (Some (symbol.Punct punct)) = of_level level (binary_of punct)
operator_of level (Some (symbol.Number number)) = None
operator_of level (Some symbol.Fault) = None
operator_of level (Some symbol.Other) = None
operator_of level None = None

-- the operator of the level between operands that comes next, if one does
abbrev pub operator_at : ℕ → Line → Result (Option Binary) ExpressionFault
operator_at level line = next line >>= λ ahead. Ok (operator_of level ahead)
