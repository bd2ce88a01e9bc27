-- Equal sources and calls have equal replies; and what each step keeps holds in each state of a run.
use Rattle.std.proofs.Common.{◌≡◌, ◌∙◌, ℕ, Bool, List, [], true, false, ap, sym, refl}
use Rattle.std.specs.Prelude.{All}
use Rattle.std.proofs.lemmas.List.Elements.{All-nil, All-cons}
use Rattle.pp_lexer.specs.declared.token.Token.{Token}
use Rattle.pp_lexer.specs.declared.rules.Rules.{Rules}
use Rattle.pp_model.specs.Places.{Fault}
use Rattle.pp_model.specs.Names.{Name}
use Rattle.pp_model.specs.Calls.{Answers}
use Rattle.pp_model.specs.Emitting.{Emits, answers_at, expansion_limit}
use Rattle.pp_model.specs.Reading.{Expander}
use Rattle.pp_model.specs.Reads.{source_reading}
use Rattle.pp_model.specs.SourceReader.{SourceReader}
use Rattle.pp_model.specs.Run.{Comings, by_rules, Call, items_by, start_by, with_added, with_included, is_fault, Gives, Runs, done, added, refused, included, too_deep, given, failed}
use Rattle.pp_model.specs.ExpansionLaws.{OneAnswer}
use Rattle.pp_model.specs.RunLaws.{OneReplies, OneRun}
use Rattle.pp_model.specs.RunStates.{LeadsTo, nowhere, adding, including, giving}
use Rattle.pp_model.specs.declared.call.Reply.{Reply}
use Rattle.pp_model.specs.declared.call.Reply.TheVariants as reply
use Rattle.pp_model.specs.declared.outcome.Outcome.{Outcome}
use Rattle.pp_model.specs.declared.outcome.Outcome.TheVariants as outcome
use Rattle.pp_model.specs.declared.read.Taken.{Taken}
use Rattle.pp_model.specs.Painting.{item_of}
use Rattle.pp_model.proofs.taking.EmittingLemmas.{one_item}
use Rattle.pp_model.proofs.calls.LevelLemmas.{one_answer}
use Rattle.pp_model.proofs.source.ReadsLemmas.{source_reads_one}

-- a fault is no other item
not_faulty : (o : Outcome) (fault : Fault) → o ≡ outcome.Fault fault → is_fault o ≡ false → true ≡ false
not_faulty o fault same h = rw same at h

module _ (C : Comings) (rules : Rules) (one_next : (o w : Outcome) (e f g : Expander SourceReader) → C e o f → C e w g → (o ≡ w) × (f ≡ g)) where
  -- where a state has one next item, equal calls have equal replies
  pub one_replies_of : (e : Expander SourceReader) (calls : List Call) (x y : List Reply) → Runs C rules e calls x → Runs C rules e calls y → x ≡ y
  one_replies_of e calls x y (done e1 x1 p) (done e2 y1 q) = p ∙ sym q
  one_replies_of e calls x y (added n c t e1 cs r x1 h a p) (added m d u e2 ds s y1 k b q) =
      let tokens : t ≡ u = cc in
      let there : Runs C rules (with_added _ t e) cs s = rw tokens b in
      p ∙ rw (one_replies_of (with_added _ t e) cs r s a there) (sym q)
  one_replies_of e calls x y (added n c t e1 cs r x1 h a p) (refused m d i e2 ds s y1 k b q) = cc
  one_replies_of e calls x y (refused n c i e1 cs r x1 h a p) (added m d u e2 ds s y1 k b q) = cc
  one_replies_of e calls x y (refused n c i e1 cs r x1 h a p) (refused m d j e2 ds s y1 k b q) =
      let fault : i ≡ j = cc in
      p ∙ rw (fault, one_replies_of e cs r s a b) (sym q)
  one_replies_of e calls x y (included t e1 cs r x1 h a p) (included u e2 ds s y1 k b q) =
      p ∙ rw (one_replies_of (with_included (items_by rules t) e) cs r s a b) (sym q)
  one_replies_of e calls x y (included t e1 cs r x1 h a p) (too_deep u e2 ds s y1 k b q) = cc
  one_replies_of e calls x y (too_deep t e1 cs r x1 h a p) (included u e2 ds s y1 k b q) = cc
  one_replies_of e calls x y (too_deep t e1 cs r x1 h a p) (too_deep u e2 ds s y1 k b q) = p ∙ rw (one_replies_of e cs r s a b) (sym q)
  one_replies_of e calls x y (given o e1 f cs r x1 a h i p) (given w e2 g ds s y1 b k j q) =
      let same = one_next o w e f g a b in
      let there : Runs C rules f cs s = rw same.1 j in
      p ∙ rw (same.0, one_replies_of f cs r s i there) (sym q)
  one_replies_of e calls x y (given o e1 f cs r x1 a h i p) (failed d e2 g ds y1 b q) = let bad =
      not_faulty o d (one_next o (outcome.Fault d) e f g a b).0 h in cc
  one_replies_of e calls x y (failed c e1 f cs x1 a p) (given w e2 g ds s y1 b k j q) = let bad =
      not_faulty w c (one_next w (outcome.Fault c) e g f b a).0 k in cc
  one_replies_of e calls x y (failed c e1 f cs x1 a p) (failed d e2 g ds y1 b q) =
      let same = (one_next (outcome.Fault c) (outcome.Fault d) e f g a b).0 in
      let fault : c ≡ d = cc in
      p ∙ rw fault (sym q)

-- What each item, and each definition that is added, keeps holds in each state to which they lead.
module _ (A : Answers) (P : Expander SourceReader → Type 0)
    (by_definition : (name : Name) (tokens : List Token) (e : Expander SourceReader) → P e → P (with_added name tokens e))
    (by_item : (o : Taken) (e f : Expander SourceReader) → Emits (source_reading A) A e o f → P e → P f) where
  -- if texts are included, what each of them keeps
  abbrev pub Includes : Bool → Type 0
  Includes includes = includes ≡ true → (text : List ℕ) (rules : Rules) (e : Expander SourceReader) → P e → P (with_included (items_by rules text) e)

  pub each_state : (includes : Bool) → Includes includes → (e f : Expander SourceReader) → LeadsTo A includes e f → P e → P f
  each_state includes by_text e f (nowhere e1 f1 p) h = rw p h
  each_state includes by_text e f (adding name tokens e1 f1 more) h = each_state includes by_text (with_added name tokens e) f more (by_definition name tokens e h)
  each_state includes by_text e f (including text rules e1 f1 may more) h =
      each_state includes by_text (with_included (items_by rules text) e) f more (by_text may text rules e h)
  each_state includes by_text e f (giving o e1 g f1 item more) h = each_state includes by_text g f more (by_item o e g item h)

  -- so holds of each reply what follows of each item and holds of the replies to definitions
  module _ (Q : Reply → Type 0) (of_added : Q reply.Added) (of_refused : (fault : Fault) → Q (reply.Refused fault))
      (of_item : (o : Outcome) (e f : Expander SourceReader) → Gives A e o f → P e → Q (reply.Given o))
      (of_included : Q reply.Included) (of_too_deep : Q reply.TooDeep) (by_text : Includes true) where
    pub each_reply : (rules : Rules) (e : Expander SourceReader) (calls : List Call) (replies : List Reply) → Runs (by_rules A) rules e calls replies → P e
        → All Q replies
    each_reply rules e calls replies (done e1 r1 p) h = rw p (All-nil Q)
    each_reply rules e calls replies (added name content tokens e1 later rest r1 is more p) h =
        rw p (All-cons Q reply.Added rest of_added (each_reply rules (with_added _ tokens e) later rest more (by_definition _ tokens e h)))
    each_reply rules e calls replies (refused name content fault e1 later rest r1 is more p) h =
        rw p (All-cons Q (reply.Refused fault) rest (of_refused fault) (each_reply rules e later rest more h))
    each_reply rules e calls replies (included text e1 later rest r1 is more p) h =
        rw p (All-cons Q reply.Included rest of_included (each_reply rules (with_included (items_by rules text) e) later rest more (by_text refl text rules e h)))
    each_reply rules e calls replies (too_deep text e1 later rest r1 is more p) h =
        rw p (All-cons Q reply.TooDeep rest of_too_deep (each_reply rules e later rest more h))
    each_reply rules e calls replies (given o e1 f later rest r1 item is more p) h =
        rw p (All-cons Q (reply.Given o) rest (of_item o e f item h) (each_reply rules f later rest more (by_item item.taken e f item.emits h)))
    each_reply rules e calls replies (failed fault e1 f later r1 item p) h =
        rw p (All-cons Q (reply.Given (outcome.Fault fault)) [] (of_item (outcome.Fault fault) e f item h) (All-nil Q))

-- by the definitions it has one
one_replies : (A : Answers) → OneAnswer A → OneReplies A
one_replies A single rules = one_replies_of (by_rules A) rules (λ o w e f g a b.
    let same = one_item (source_reading A) (source_reads_one A single) A single a.taken b.taken e f g a.emits b.emits in
    (a.is ∙ ap item_of same.0 ∙ sym b.is, same.1))

pub one_replies_at : (level : ℕ) → OneReplies (answers_at level)
one_replies_at level = one_replies (answers_at level) (one_answer level)

pub one_run : OneRun
one_run rules text calls x y a b = one_replies_at expansion_limit rules (start_by rules (items_by rules text)) calls x y a b
