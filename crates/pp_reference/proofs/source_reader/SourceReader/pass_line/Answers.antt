use Rattle.std.proofs.Common.{arith, ap, drop, length, length-drop}
use Rattle.pp_reference.proofs.source_reader.SourceReader.pass_line.Goals as goal

pub invariant_of-self : goal.invariant_of-self
invariant_of-self c =
    let p = c.self.inside in
    let after = rw (← c.self.view_is) at c.after_word.ensures in
    omega (
      arith,
      c.line_length-length.ensures.most,
      ap length after,
      length-drop 2 (drop p.position p.items.items),
      length-drop p.position p.items.items,
      rw (← c.self.view_is) at c.requires,
    )
