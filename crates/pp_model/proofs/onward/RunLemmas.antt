-- Every source has exactly one run to its end, for every list of calls.
use Rattle.std.proofs.Common.{◌≡◌, ◌∙◌, sym, ℕ, Bool, true, false, List, [], ◌∷◌, refl}
use Rattle.std.specs.Prelude.{Result, Ok, Err, ◌+◌}
use Rattle.std.specs.Str.{chars}
use Rattle.pp_lexer.specs.declared.token.Token.{Token}
use Rattle.pp_lexer.specs.declared.rules.Rules.{Rules}
use Rattle.pp_model.specs.Places.{Fault}
use Rattle.pp_model.specs.Painting.{item_of}
use Rattle.pp_model.specs.Reading.{Expander}
use Rattle.pp_model.specs.Calls.{Answers}
use Rattle.pp_model.specs.Definitions.{object_like}
use Rattle.pp_model.specs.Emitting.{answers_at, expansion_limit}
use Rattle.pp_model.specs.SourceReader.{is_full}
use Rattle.pp_model.specs.Onward.{Onward, onward_reading}
use Rattle.pp_model.specs.Run.{Call, add_define, include, next, items_by, content_tokens, start_by, with_added, with_included}
use Rattle.pp_model.specs.RunToEnd.{going_on, changed_by, RunsToEnd, done, added, refused, included, too_deep, given}
use Rattle.pp_model.specs.ExpansionLaws.{OneAnswer}
use Rattle.pp_model.specs.ExistenceLaws.{AnAnswer}
use Rattle.pp_model.specs.ToEndLaws.{OneRunToEnd, ARunToEnd}
use Rattle.pp_model.specs.declared.call.Reply.{Reply}
use Rattle.pp_model.specs.declared.call.Reply.TheVariants as reply
use Rattle.pp_model.proofs.taking.EmittingLemmas.{one_item}
use Rattle.pp_model.proofs.calls.LevelLemmas.{one_answer}
use Rattle.pp_model.proofs.existence.Turns.{next_item}
use Rattle.pp_model.proofs.existence.ArgumentLemmas.{an_answer}
use Rattle.pp_model.proofs.existence.DefinitionLemmas.{with_one}
use Rattle.pp_model.proofs.existence.SourceLemmas.{HasFinite}
use Rattle.pp_model.proofs.existence.RunLemmas.{start_finite}
use Rattle.pp_model.proofs.onward.StepLemmas.{onward_reads_one}
use Rattle.pp_model.proofs.onward.ExistenceLemmas.{every_onward}

-- Equal calls have equal replies.
module _ (A : Answers) (single : OneAnswer A) (rules : Rules) where
  pub one_replies : (e : Expander Onward) (calls : List Call) (x y : List Reply) → RunsToEnd A rules e calls x → RunsToEnd A rules e calls y → x ≡ y
  one_replies e calls x y (done e1 x1 p) (done e2 y1 q) = p ∙ sym q
  one_replies e calls x y (added n c t e1 cs r x1 h a p) (added m d u e2 ds s y1 k b q) =
      let tokens : t ≡ u = cc in
      let there : RunsToEnd A rules (changed_by (with_added _ t) e) cs s = rw tokens b in
      p ∙ rw (one_replies (changed_by (with_added _ t) e) cs r s a there) (sym q)
  one_replies e calls x y (added n c t e1 cs r x1 h a p) (refused m d i e2 ds s y1 k b q) = cc
  one_replies e calls x y (refused n c i e1 cs r x1 h a p) (added m d u e2 ds s y1 k b q) = cc
  one_replies e calls x y (refused n c i e1 cs r x1 h a p) (refused m d j e2 ds s y1 k b q) =
      let fault : i ≡ j = cc in
      p ∙ rw (fault, one_replies e cs r s a b) (sym q)
  one_replies e calls x y (included t e1 cs r x1 h a p) (included u e2 ds s y1 k b q) =
      p ∙ rw (one_replies (changed_by (with_included (items_by rules t)) e) cs r s a b) (sym q)
  one_replies e calls x y (included t e1 cs r x1 h a p) (too_deep u e2 ds s y1 k b q) = cc
  one_replies e calls x y (too_deep t e1 cs r x1 h a p) (included u e2 ds s y1 k b q) = cc
  one_replies e calls x y (too_deep t e1 cs r x1 h a p) (too_deep u e2 ds s y1 k b q) = p ∙ rw (one_replies e cs r s a b) (sym q)
  one_replies e calls x y (given o e1 f cs r x1 i a p) (given w e2 g ds s y1 j b q) =
      let same = one_item (onward_reading A) (onward_reads_one A single) A single o w e f g i j in
      let there : RunsToEnd A rules f cs s = rw same.1 b in
      p ∙ rw (same.0, one_replies f cs r s a there) (sym q)

pub one_run_to_end : OneRunToEnd
one_run_to_end rules text calls x y a b =
    one_replies (answers_at expansion_limit) (one_answer expansion_limit) rules (going_on [] (start_by rules (items_by rules text))) calls x y a b

-- Each list of calls has replies.
module _ (A : Answers) (answered : AnAnswer A) (rules : Rules) where
  abbrev Running : Expander Onward → List Call → Type 0
  Running e calls = (replies : List Reply) × RunsToEnd A rules e calls replies

  adds : (name content : List ℕ) (e : Expander Onward) (calls : List Call) → (x : Result (List Token) Fault) → content_tokens (items_by rules content) ≡ x
      → ((tokens : List Token) → Running (changed_by (with_added (chars name) tokens) e) calls) → Running e calls → Running e (add_define name content ∷ calls)
  adds name content e calls (Ok tokens) p more same =
      let replies = reply.Added ∷ (more tokens).0 in
      (replies, added name content tokens e calls (more tokens).0 replies p (more tokens).1 refl)
  adds name content e calls (Err fault) p more same =
      let replies = reply.Refused fault ∷ same.0 in
      (replies, refused name content fault e calls same.0 replies p same.1 refl)

  includes : (text : List ℕ) (e : Expander Onward) (calls : List Call) → (full : Bool) → is_full e.reader.reader ≡ full
      → Running (changed_by (with_included (items_by rules text)) e) calls → Running e calls → Running e (include text ∷ calls)
  includes text e calls false p more same = (reply.Included ∷ more.0, included text e calls more.0 (reply.Included ∷ more.0) p more.1 refl)
  includes text e calls true p more same = (reply.TooDeep ∷ same.0, too_deep text e calls same.0 (reply.TooDeep ∷ same.0) p same.1 refl)

  replies_to : (calls : List Call) (e : Expander Onward) → HasFinite e.reader.reader → Running e calls
  replies_to [] e finite = ([], done e [] refl)
  replies_to (add_define name content ∷ calls) e finite =
      adds name content e calls (content_tokens (items_by rules content)) refl
      (λ tokens. replies_to calls (changed_by (with_added (chars name) tokens) e)
      (with_one e.reader.reader.definitions (chars name) finite (object_like (e.reader.reader.contents + 1) tokens)))
      (replies_to calls e finite)
  replies_to (include text ∷ calls) e finite =
      includes text e calls (is_full e.reader.reader) refl (replies_to calls (changed_by (with_included (items_by rules text)) e) finite) (replies_to calls e finite)
  replies_to (next ∷ calls) e finite =
      let i = next_item e (every_onward A answered e finite) in
      let rest = replies_to calls i.after i.fine in
      let replies = reply.Given (item_of i.item) ∷ rest.0 in
      (replies, given i.item e i.after calls rest.0 replies i.emits rest.1 refl)

pub a_run_to_end : ARunToEnd
a_run_to_end rules text calls =
    replies_to (answers_at expansion_limit) (an_answer expansion_limit) rules calls (going_on [] (start_by rules (items_by rules text)))
    (start_finite rules (items_by rules text))
