use Rattle.std.proofs.Common.{◌∙◌, length, refl, sym}
use Rattle.pp_macros.proofs.open_frames.BaseLemmas.{none_given, gives_here, numbered_here}
use Rattle.pp_macros.proofs.macro_processor.MacroProcessor.ahead.Goals as goal

-- nothing is open here
pub returns-then-not-has_frames-clause-ahead : goal.returns-then-not-has_frames-clause-ahead
returns-then-not-has_frames-clause-ahead c = sym (none_given c.args.self.now.here.frames (sym c.has_frames.ensures ∙ c.if-not-has_frames.true))

pub returns-in-Some-clause-ahead : goal.returns-in-Some-clause-ahead
returns-in-Some-clause-ahead c =
    let item = rw c.deref.ensures.value at c.in-Some.ensures.item in
    c.token.ensures.token ∙ sym (gives_here c.self.inside.held c.self.inside.base c.self.inside.frames.items c.args.self.now c.self.view_is
    (sym c.has_frames.ensures ∙ c.if-not-has_frames.false) c.in-Some.frame.now (length c.self.inside.frames.items) refl item.1)

pub returns-in-Some-clause-number : goal.returns-in-Some-clause-number
returns-in-Some-clause-number c =
    let item = rw c.deref.ensures.value at c.in-Some.ensures.item in
    numbered_here c.self.inside.held c.self.inside.base c.self.inside.frames.items c.args.self.now c.self.view_is
    (sym c.has_frames.ensures ∙ c.if-not-has_frames.false) c.in-Some.frame.now (length c.self.inside.frames.items) refl item.1 c.token.result c.token.ensures.number
