use Rattle.std.proofs.Common.{arith, length-take}
use Rattle.pp_print.proofs.ReadLemmas.{consumes_more, consumes_all, consumes_within, takes_more}
use Rattle.pp_print.proofs.input.read_bytes.Goals as goal

pub loop-chunk-preserved : goal.loop-chunk-preserved
loop-chunk-preserved g c =
    let happened = c.in_ok-read_some.ensures in
    record {
      ok = happened.ok;
      within = omega (arith, length-take c.min-room.result c.loop-chunk.chunk);
      read = consumes_more _ _ _ _ _ c.loop-chunk.invariant.read happened.appends happened.read;
    }

pub returns-then-branch-eq0-clause-read : goal.returns-then-branch-eq0-clause-read
returns-then-branch-eq0-clause-read g c =
    let happened = c.in_ok-read_some.ensures in
    let read = consumes_more _ _ _ _ _ c.loop-chunk.invariant.read happened.appends happened.read in
    consumes_all _ _ _ read (happened.end c.if-branch-eq0.true (omega (arith, length-take c.min-room.result c.loop-chunk.chunk)))

pub returns-clause-err : goal.returns-clause-err
returns-clause-err g c = (c.loop-chunk.invariant.ok, consumes_within _ _ _ _ c.loop-chunk.invariant.read (omega arith))

pub returns-in_err-read_some-clause-taken : goal.returns-in_err-read_some-clause-taken
returns-in_err-read_some-clause-taken g c =
    takes_more _ _ _ _ _ _ c.loop-chunk.invariant.read c.read_some.ensures.taken (omega (arith, length-take c.min-room.result c.loop-chunk.chunk))
