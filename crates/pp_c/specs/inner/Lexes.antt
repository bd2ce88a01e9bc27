-- How far the lexer has got. No contract of a public call cites this.
use Rattle.std.specs.Prelude.{◌≡◌, false, List, ◌++◌}
use Rattle.pp_rs.specs.Lexed.{Lexed}
use Rattle.pp_c.specs.Entries.{Entry}
use Rattle.pp_c.specs.Lexing.{entries_left}
use Rattle.pp_c.specs.inner.Taking.{Takes}
use Rattle.pp_c.specs.declared.output.Output.{Output}

-- some of the entries that the lexer had were written, and the others are left
pub record Lexes (first now : Lexed) (output output_after : Output) : Type 0 where
  pub done : List Entry
  pub takes : Takes output done output_after
  pub left : entries_left first ≡ done ++ entries_left now
  pub unspent : now.spent ≡ false
