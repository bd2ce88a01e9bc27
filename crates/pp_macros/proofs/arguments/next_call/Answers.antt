use Rattle.std.proofs.Common.{◌∙◌, refl, arith}
use Rattle.std.proofs.lemmas.List.Elements.{All-push}
use Rattle.pp_model.specs.declared.read.Read.{Read}
use Rattle.pp_macros.specs.Held.{HoldsOrdinary}
use Rattle.pp_macros.specs.inner.Finishing.{unturned, onward, puts, waits}
use Rattle.pp_macros.proofs.open_frames.ListKnownLemmas.{list_known, list_kept}
use Rattle.pp_macros.proofs.taking.GivingLemmas.{given_sound, once_less}
use Rattle.pp_macros.proofs.taking.ListedLeadsLemmas.{turned}
use Rattle.pp_macros.proofs.arguments.next_call.Goals as goal

pub items-init : goal.items-init
items-init c = record {
  over = unturned _ _ _ refl refl refl;
  sound = c.requires.sound;
  holds = c.requires.before;
  below = refl;
  same = refl;
  none = c.requires.none;
}

pub step_list-requires : goal.step_list-requires
step_list-requires c =
    let given = given_sound _ _ _ _ _ c.items.invariant.sound c.in_ok-give_frames.ensures.gives in
    list_known c.args.processor.now c.give_frames.new.self c.items.processor.below c.items.lexer c.args.lexer.now.definitions given.0 c.items.invariant.same
    (c.in_ok-give_frames.ensures.below ∙ c.items.invariant.below) c.requires.known

pub items-smaller-in-Continue-branch-3 : goal.items-smaller-in-Continue-branch-3
items-smaller-in-Continue-branch-3 c =
    let turns = turned _ _ _ _ _ (rw (c.in-Ok-Token.field-0-is, c.in_ok-give_frames.ensures.below) at c.in-Ok-Token.ensures.turns) refl in
    let less = once_less _ _ _ _ _ _ _ _ c.items.invariant.sound c.in_ok-give_frames.ensures.gives
    (puts c.in-Ok-Token.read turns c.in_ok-push-in-Ok-Token.ensures.items) in
    omega (arith, less.falls)

pub items-preserved-in-Continue-branch-3 : goal.items-preserved-in-Continue-branch-3
items-preserved-in-Continue-branch-3 c =
    let turns = turned _ _ _ _ _ (rw (c.in-Ok-Token.field-0-is, c.in_ok-give_frames.ensures.below) at c.in-Ok-Token.ensures.turns) refl in
    let once = puts c.in-Ok-Token.read turns c.in_ok-push-in-Ok-Token.ensures.items in
    record {
      over = onward _ _ _ _ _ _ _ _ c.items.invariant.over c.in_ok-give_frames.ensures.gives once;
      sound = (once_less _ _ _ _ _ _ _ _ c.items.invariant.sound c.in_ok-give_frames.ensures.gives once).sound;
      holds =
          rw c.in_ok-push-in-Ok-Token.ensures.items (All-push (λ (read : Read). HoldsOrdinary read.token.value) _ _ c.in_ok-give_frames.ensures.holds
          (rw c.in-Ok-Token.field-0-is at c.in-Ok-Token.ensures.holds));
      below = c.step_list.ensures.below ∙ c.in_ok-give_frames.ensures.below ∙ c.items.invariant.below;
      same = list_kept c.args.lexer.now.definitions _ _ _ _ _ c.items.lexer c.step_list.new.list turns refl c.items.invariant.same;
      none = c.items.invariant.none;
    }

pub returns-in-Ok-Call-clause-same : goal.returns-in-Ok-Call-clause-same
returns-in-Ok-Call-clause-same c =
    list_kept c.args.lexer.now.definitions _ _ _ _ _ c.items.lexer c.step_list.new.list
    (turned _ _ _ _ _ (rw (c.in-Ok-Call.field-0-is, c.in_ok-give_frames.ensures.below) at c.in-Ok-Call.ensures.turns) refl) refl c.items.invariant.same

pub items-smaller : goal.items-smaller
items-smaller c =
    let turns = turned _ _ _ _ _ (rw (c.in-Err-Continue.field-0-is, c.in_ok-give_frames.ensures.below) at c.in-Err-Continue.ensures.turns) refl in
    let less = once_less _ _ _ _ _ _ _ _ c.items.invariant.sound c.in_ok-give_frames.ensures.gives (waits turns refl) in
    omega (arith, less.falls)

pub items-preserved : goal.items-preserved
items-preserved c =
    let turns = turned _ _ _ _ _ (rw (c.in-Err-Continue.field-0-is, c.in_ok-give_frames.ensures.below) at c.in-Err-Continue.ensures.turns) refl in
    record {
      over = onward _ _ _ _ _ _ _ _ c.items.invariant.over c.in_ok-give_frames.ensures.gives (waits turns refl);
      sound = (once_less _ _ _ _ _ _ _ _ c.items.invariant.sound c.in_ok-give_frames.ensures.gives (waits turns refl)).sound;
      holds = c.in_ok-give_frames.ensures.holds;
      below = c.step_list.ensures.below ∙ c.in_ok-give_frames.ensures.below ∙ c.items.invariant.below;
      same = list_kept c.args.lexer.now.definitions _ _ _ _ _ c.items.lexer c.step_list.new.list turns refl c.items.invariant.same;
      none = c.items.invariant.none;
    }

pub returns-in-Err-Finished-clause-same : goal.returns-in-Err-Finished-clause-same
returns-in-Err-Finished-clause-same c =
    list_kept c.args.lexer.now.definitions _ _ _ _ _ c.items.lexer c.step_list.new.list
    (turned _ _ _ _ _ (rw (c.in-Err-Finished.field-0-is, c.in_ok-give_frames.ensures.below) at c.in-Err-Finished.ensures.turns) refl) refl c.items.invariant.same
