use Rattle.std.proofs.Common.{◌∙◌, sym, arith}
use Rattle.pp_c.proofs.AnswerLemmas.{same_memory, with_room, again, gives_nothing, has_budget, answers_of_stream}
use Rattle.pp_c.proofs.StatusLemmas.{by_number, how_ended}
use Rattle.pp_c.proofs.StreamedLemmas.{IsFresh, streamed}
use Rattle.pp_c.proofs.stream.state.State.next.Goals as goal

pub returns-clause-answer : goal.returns-clause-answer
returns-clause-answer c =
    let s = c.status_after.ensures in
    answers_of_stream c.give-end.result c.status_after.result s.out_of_memory s.over_budget c.args.most c.args.self.now c.give-end.new.self
    c.new-output.result c.give-end.new.output c.give-end.ensures.given c.give-end.ensures.short s.not_utf8.0 s.too_long.0 s.bad_definition.0 s.too_deep.0 s.good_options s.no_stream

pub returns-clause-given : goal.returns-clause-given
returns-clause-given c = λ h.
    let s = c.status_after.ensures in
    let it = how_ended c.give-end.result c.status_after.result s.done s.partial s.asking s.too_small c.give-end.ensures.given h in
    let fresh : IsFresh c.new-output.result c.args.items.now c.args.texts.now = record {
      items_are = c.new-output.ensures.items;
      texts_are = c.new-output.ensures.texts;
      sizes = c.new-output.ensures.sizes;
      items_small = omega arith;
      texts_small = omega arith;
    } in
    let same = same_memory c.args.most it.end c.args.self.now c.give-end.new.self c.new-output.result c.give-end.new.output it.holds in
    streamed c.new-output.result c.give-end.new.output c.args.items.now _ c.args.texts.now _ c.sizes-wanted.result fresh
    (c.items-1.given.1.1 (sym c.new-output.ensures.same_items ∙ sym same.items)) (c.texts-1.given.1.1 (sym c.new-output.ensures.same_texts ∙ sym same.texts))
    c.sizes-wanted.ensures c.args.most _ it.end c.args.self.now c.give-end.new.self h it.done it.partial it.asking
    (with_room c.status_after.result (λ e. rw (← c.room_of-room.ensures.items, ← c.room_of-room.ensures.texts) (s.room e)))
    (λ one. rw (← c.room_of-room.ensures.items, ← c.room_of-room.ensures.texts) (s.no_room (by_number c.status_after.result 1 one))) it.holds

pub returns-clause-short : goal.returns-clause-short
returns-clause-short c = λ h.
    let s = c.status_after.ensures in
    gives_nothing c.give-end.result c.status_after.result s.out_of_memory s.over_budget c.args.most c.args.self.now c.give-end.new.self
    c.new-output.result c.give-end.new.output c.give-end.ensures.given c.give-end.ensures.short h

pub returns-clause-ran_out : goal.returns-clause-ran_out
returns-clause-ran_out c =
    let s = c.status_after.ensures in
    again c.give-end.result c.status_after.result s.out_of_memory s.over_budget c.args.most c.args.self.now c.give-end.new.self
    c.new-output.result c.give-end.new.output c.give-end.ensures.given c.give-end.ensures.short

pub returns-clause-over_budget : goal.returns-clause-over_budget
returns-clause-over_budget c = λ six.
    let s = c.status_after.ensures in
    has_budget c.give-end.result c.status_after.result s.out_of_memory s.over_budget c.args.most c.args.self.now c.give-end.new.self
    c.new-output.result c.give-end.new.output c.give-end.ensures.given c.give-end.ensures.short six
