-- Parts of a line, under names of their own.
use Rattle.std.specs.Prelude.{ℕ, nat_le, Bool, false, Option}
use Rattle.std.specs.Option.{option_map_or}
use Rattle.pp_expression.specs.declared.operator.Binary.{Binary}
use Rattle.pp_expression.specs.Operators.{level_of}

-- there is an operator, and it binds at least as tightly as level
abbrev pub binds_from : ℕ → Option Binary → Bool
binds_from level operator = option_map_or (λ operator. nat_le level (level_of operator)) operator false
