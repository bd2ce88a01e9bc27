-- In no state of a run is a macro open twice, and no reply is a `__LINE__`.
use Rattle.std.proofs.Common.{◌≡◌, ◌∙◌, true, false, refl, ap, Option, Some, None}
use Rattle.std.specs.Prelude.{IfSome}
use Rattle.pp_lexer.specs.declared.token.Location.{Location}
use Rattle.pp_model.specs.Places.{PlacedFault}
use Rattle.pp_model.specs.Calls.{Answers}
use Rattle.pp_model.specs.Reads.{source_reading}
use Rattle.pp_model.specs.Run.{start_by, without_end}
use Rattle.pp_model.specs.ApartMarks.{HasApartMarks}
use Rattle.pp_model.specs.NoLineName.{is_line_name, HoldsNoLineName}
use Rattle.pp_model.specs.RunStates.{RunKeepsMarksApart, gives_line_name, RunShowsNoLineName}
use Rattle.pp_model.specs.declared.call.Reply.{Reply}
use Rattle.pp_model.specs.declared.call.Reply.TheVariants as reply
use Rattle.pp_model.specs.declared.read.Taken.{Taken}
use Rattle.pp_model.specs.declared.read.Taken.TheVariants as taken
use Rattle.pp_model.specs.Painting.{fault_item, item_of}
use Rattle.pp_model.proofs.runs.RunLemmas.{each_state, each_reply}
use Rattle.pp_model.proofs.taking.ApartMarksLemmas.{item_keeps_apart}
use Rattle.pp_model.proofs.taking.NoLineNameLemmas.{item_shows_none}

abbrev IsNoLineName : Reply → Type 0
IsNoLineName answer = gives_line_name answer ≡ false

no_name : (fault : PlacedFault) (asks : Option Location) → gives_line_name (reply.Given (fault_item fault asks)) ≡ false
no_name fault (Some rest) = refl
no_name fault None = refl

-- an item is a `__LINE__` where it was taken as one
same_name : (x : Taken) → gives_line_name (reply.Given (item_of x)) ≡ is_line_name x
same_name (taken.Token token) = refl
same_name (taken.Fault fault) = no_name fault fault.1.asks
same_name taken.End = refl

-- what is held once a text is included is no `__LINE__`
still_none : (held : Option Taken) → IfSome held (λ o. is_line_name o ≡ false) → IfSome (without_end held) (λ o. is_line_name o ≡ false)
still_none (Some (taken.Token read)) h = h
still_none (Some (taken.Fault fault)) h = h
still_none (Some taken.End) h = tt
still_none None h = h

module _ (A : Answers) where
  pub run_keeps_marks_apart : RunKeepsMarksApart A
  run_keeps_marks_apart rules source e reached =
      each_state A (λ e. HasApartMarks e.list) (λ name tokens e apart. apart) (item_keeps_apart (source_reading A) A) true
      (λ may text by e apart. apart) (start_by rules source) e reached tt

  pub run_shows_no_line_name : RunShowsNoLineName A
  run_shows_no_line_name rules source calls replies run =
      let items = item_shows_none (source_reading A) A in
      each_reply A HoldsNoLineName (λ name tokens e none. none) (λ o e f item none. (items o e f item none).1) IsNoLineName refl (λ fault. refl)
      (λ o e f item none. ap (λ x. gives_line_name (reply.Given x)) item.is ∙ same_name item.taken ∙ (items item.taken e f item.emits none).0)
      refl refl (λ may text by e none. still_none e.held none) rules (start_by rules source) calls replies run tt
