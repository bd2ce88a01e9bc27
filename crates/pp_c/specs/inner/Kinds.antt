-- The numbers of kinds. No contract of a public call cites this.
use Rattle.std.specs.Prelude.{ℕ}
use Rattle.pp_c.specs.declared.items.Kind.{Kind}
use Rattle.pp_c.specs.declared.items.Kind.TheVariants.{Error, Place, Ident, Integer, Float}
use Rattle.pp_c.specs.declared.items.Kind.TheVariants.{Version, Extension, Pragma, NewLine, Hash, IncludeLine}

-- the number of a kind
abbrev pub kind_number : Kind → ℕ
kind_number Error = 0
kind_number Place = 1
kind_number Ident = 2
kind_number Integer = 3
kind_number Float = 4
kind_number Version = 5
kind_number Extension = 6
kind_number Pragma = 7
kind_number NewLine = 8
kind_number Hash = 9
kind_number IncludeLine = 10
