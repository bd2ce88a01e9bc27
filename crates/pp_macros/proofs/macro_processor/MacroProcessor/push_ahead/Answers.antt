use Rattle.std.proofs.Common.{◌≡◌, ◌∙◌, refl, sym, None, Err}
use Rattle.pp_macros.specs.inner.Ahead.{read_of}
use Rattle.pp_macros.specs.inner.Nesting.{MayWait, seen_by}
use Rattle.pp_macros.specs.declared.step.PlacedExit.TheVariants.{Continue}
use Rattle.pp_macros.proofs.open_frames.KnownLemmas.{pause_known}
use Rattle.pp_macros.proofs.taking.ExpanderLemmas.{none_held, leads_more, leads_now, pause_falls}
use Rattle.pp_macros.proofs.taking.FrameTurnLemmas.{frame_takes, frame_makes}
use Rattle.pp_macros.proofs.taking.NestingLemmas.{taken_painted}
use Rattle.pp_macros.proofs.macro_processor.MacroProcessor.push_ahead.Goals as goal

pub pauses-init : goal.pauses-init
pauses-init g c = record {
  free = none_held c.args.self.now.here.held (sym c.is_holding.ensures ∙ c.if-is_holding.false);
  leads = λ step p t next. next;
  below = refl;
  same = refl;
  known = c.requires.known;
}

pub pauses-smaller : goal.pauses-smaller
pauses-smaller g c =
    let r = (goal.MeLexer-dyn g c.args.lexer.now).reader c.args.lexer.now.1 in
    let taken = rw c.pauses.invariant.below at (frame_takes c.pauses.self r (rw c.pauses.invariant.below c.requires.waits) c.pauses.invariant.free
    (sym c.has_frames.ensures ∙ c.pauses-test.true) None (Err Continue) c.in_default.ensures.ahead refl) in
    rw c.pass_pause.ensures (pause_falls _ _ _ _ _ taken refl)

pub pauses-preserved : goal.pauses-preserved
pauses-preserved g c =
    let r = (goal.MeLexer-dyn g c.args.lexer.now).reader c.args.lexer.now.1 in
    let steps = frame_takes c.pauses.self r (rw c.pauses.invariant.below c.requires.waits) c.pauses.invariant.free
    (sym c.has_frames.ensures ∙ c.pauses-test.true) None (Err Continue) c.in_default.ensures.ahead refl in
    rw c.pass_pause.ensures (record {
      free = c.pauses.invariant.free;
      leads = leads_more _ _ _ _ _ _ _ c.pauses.invariant.leads (rw c.pauses.invariant.below at steps) refl;
      below = c.pauses.invariant.below;
      same = c.pauses.invariant.same;
      known = pause_known _ c.pauses.self _ r r steps refl refl c.pauses.invariant.known;
    })

-- a token
pub returns-in-pauses-clause-puts : goal.returns-in-pauses-clause-puts
returns-in-pauses-clause-puts g c =
    let r = (goal.MeLexer-dyn g c.args.lexer.now).reader c.args.lexer.now.1 in
    let waits : MayWait c.pauses.self.below r = rw c.pauses.invariant.below c.requires.waits in
    let made = c.in_ok-read.ensures {u = tt} in
    let stays : c.make_read.new.self.below ≡ c.pauses.self.below = rw made.makes.1 refl in
    let fetches = frame_makes c.pauses.self r waits c.pauses.invariant.free (sym c.has_frames.ensures ∙ c.pauses-test.true)
    (read_of c.in-Some.ahead) _ c.in-Some.ensures.ahead (sym c.is_line_name.ensures ∙ c.if-is_line_name.false) made.makes.0 in
    let takes = taken_painted c.pauses.self.here (seen_by c.pauses.self.below r) c.make_read.new.self r _ c.paint.new.read (rw made.makes.1 fetches) c.paint.ensures (rw made.makes.1 waits) in
    record {
      read = c.paint.new.read;
      takes = leads_now _ _ _ _ _ _ _ c.pauses.invariant.leads (rw (stays, c.pauses.invariant.below) at takes) refl;
      holds = rw c.paint.ensures made.holds;
      is = rw c.pauses.invariant.same at (c.in_ok-push.ensures {u = tt}).items;
    }

-- `__LINE__`
pub returns-then-is_line_name-clause-puts : goal.returns-then-is_line_name-clause-puts
returns-then-is_line_name-clause-puts g c = (c.pauses.invariant.leads, c.pauses.invariant.same)

-- no macro is open any more
pub returns-clause-puts : goal.returns-clause-puts
returns-clause-puts g c = (c.pauses.invariant.leads, c.pauses.invariant.same)
