use Rattle.std.proofs.Common.{◌≡◌, false, string_bytes}
use Rattle.pp_rs.specs.Comes.{State}
use Rattle.pp_rs.specs.Kept.{Stands, is_spent, most_items, rules_of}
use Rattle.pp_rs.specs.Rules.{pp_rs}
use Rattle.pp_print.specs.inner.Printing.{IsPrintingText}
use Rattle.pp_print.proofs.output.print_rest.Given as goal

abbrev pub invariant-items : goal.invariant-items
invariant-items g l = record {
  ok : g.W.Sink.failed l.writer ≡ false;
  unspent : is_spent l.items ≡ false;
  rules : rules_of l.items ≡ pp_rs;
  printing : (start : State) → Stands l.fn.items start → IsPrintingText start l.items (string_bytes l.line)
      (g.W.Sink.contents l.fn.writer) (g.W.Sink.contents l.writer);
}

abbrev pub decreases-items : goal.decreases-items
decreases-items g l = most_items l.items
