use Rattle.std.proofs.Common.{◌≡◌, ◌-◌, ◌≤◌, false, vec_len}
use Rattle.std.specs.Io.KnownBytes.{Consumes}
use Rattle.pp_print.proofs.input.read_bytes.Given as goal

abbrev pub invariant-loop-chunk : goal.invariant-loop-chunk
invariant-loop-chunk g l = record {
  ok : g.R.Source.failed l.reader ≡ false;
  within : vec_len l.bytes ≤ 4294967295;
  read : Consumes (g.R.Source.remaining l.fn.reader) (g.R.Source.remaining l.reader) l.bytes.items;
}

abbrev pub decreases-loop-chunk : goal.decreases-loop-chunk
decreases-loop-chunk g l = 4294967295 - vec_len l.bytes
