-- A line gives one list of words, with one ending.
use Rattle.std.proofs.Common.{◌≡◌, ◌∙◌, ℕ, Bool, [], ◌∷◌, sym, Option, Some, None}
use Rattle.std.specs.Prelude.{Result, Ok, Err}
use Rattle.pp_model.specs.declared.place.Place.{Place}
use Rattle.pp_model.specs.Places.{PlacedFault, place_of, place_in, fault_in}
use Rattle.pp_model.specs.ItemCall.{item_call}
use Rattle.pp_model.specs.declared.splice.CallPlace.{CallPlace}
use Rattle.pp_model.specs.declared.read.Read.{Read}
use Rattle.pp_model.specs.Reading.{Expander, Listed, line_reading}
use Rattle.pp_model.specs.Calls.{Answers}
use Rattle.pp_model.specs.Emitting.{Emits, answers_at}
use Rattle.pp_model.specs.LineWords.{WordReading, operator, word, fault, reading, Operand, Words, word_before, word_of, LineWords, ended, failed, refused, plain, answered, faulty}
use Rattle.pp_model.specs.ExpansionLaws.{OneAnswer, OneOperand, OneLine}
use Rattle.pp_model.specs.declared.read.Taken.{Taken}
use Rattle.pp_model.specs.declared.read.Taken.TheVariants as taken
use Rattle.pp_model.specs.declared.word.LineKind.{LineKind}
use Rattle.pp_model.specs.declared.word.Word.TheVariants.{Defined}
use Rattle.pp_model.proofs.taking.TakingLemmas.{line_reads_one}
use Rattle.pp_model.proofs.taking.EmittingLemmas.{one_item}
use Rattle.pp_model.proofs.calls.LevelLemmas.{one_answer}
use Rattle.pp_model.proofs.values.OperandLemmas.{one_operand}

module _ (A : Answers) (single : OneAnswer A) where
  module _ (kind : LineKind) (directive : Place) where
    -- the words of a line, by its next item, and by the operand of a `defined`
    abbrev ByOperand : Place → Result Bool PlacedFault → Expander Listed → Words → Type 0
    ByOperand p (Ok answer) h ws = (rest : Words) × LineWords kind directive A h rest × (ws ≡ word_before (Defined p (Ok answer)) rest)
    ByOperand p (Err f) h ws = ws ≡ record { words = Defined p (Err f) ∷ []; ending = None }

    abbrev ByReading : WordReading → Read → Option CallPlace → Expander Listed → Words → Type 0
    ByReading (fault f) t k g ws = ws ≡ record { words = []; ending = Some (fault_in k f) }
    ByReading (word w) t k g ws = (rest : Words) × LineWords kind directive A g rest × (ws ≡ word_before (word_of k w) rest)
    ByReading operator t k g ws =
        (r : Result Bool PlacedFault) × (h : Expander Listed) × Operand kind directive A g r h × ByOperand (place_in k (place_of t)) r h ws

    abbrev ByItem : Taken → Option CallPlace → Expander Listed → Words → Type 0
    ByItem (taken.Token t) k g ws = ByReading (reading kind t) t k g ws
    ByItem (taken.Fault f) k g ws = ws ≡ record { words = []; ending = Some f }
    ByItem taken.End k g ws = ws ≡ record { words = []; ending = None }

    first_item : (ws : Words) (e : Expander Listed) → LineWords kind directive A e ws
        → (o : Taken) × (g : Expander Listed) × (i : Emits line_reading A e o g) × ByItem o (item_call i) g ws
    first_item ws e (ended e1 g ws1 a p) = (taken.End, g, a, p)
    first_item ws e (failed f e1 g ws1 a p) = (taken.Fault f, g, a, p)
    first_item ws e (refused t f e1 g ws1 a k p) = (taken.Token t, g, a, rw k p)
    first_item ws e (plain t w e1 g rest ws1 a k l p) = (taken.Token t, g, a, rw k (rest, l, p))
    first_item ws e (answered t answer e1 g h rest ws1 a k o l p) = (taken.Token t, g, a, rw k (Ok answer, h, o, (rest, l, p)))
    first_item ws e (faulty t f e1 g h ws1 a k o p) = (taken.Token t, g, a, rw k (Err f, h, o, p))

    same_item : (o x : Taken) (k l : Option CallPlace) (g h : Expander Listed) (ws : Words) → o ≡ x → k ≡ l → g ≡ h → ByItem x l h ws → ByItem o k g ws
    same_item o x k l g h ws p q r by = rw (p, q, r) by

    -- where this is the next item, the words come so
    after_item : (o : Taken) (ws : Words) (e g : Expander Listed) (i : Emits line_reading A e o g) → LineWords kind directive A e ws
        → ByItem o (item_call i) g ws
    after_item o ws e g a b =
        let first = first_item ws e b in
        let same = one_item line_reading line_reads_one A single o first.0 e g first.1 a first.2 in
        same_item o first.0 (item_call a) (item_call first.2) g first.1 ws same.0 same.2 same.1 first.3

    -- where the operand is this, they come so
    after_operand : (t : Read) (k : Option CallPlace) (r : Result Bool PlacedFault) (ws : Words) (g h : Expander Listed) → Operand kind directive A g r h
        → ByReading operator t k g ws
        → ByOperand (place_in k (place_of t)) r h ws
    after_operand t k r ws g h a b =
        let same = one_operand A single kind directive r b.0 g h b.1 a b.2 in
        rw (same.0, same.1) b.3

    one_list : (x y : Words) (e : Expander Listed) → LineWords kind directive A e x → LineWords kind directive A e y → x ≡ y
    one_list x y e (ended e1 g x1 a p) b = p ∙ sym (after_item taken.End y e g a b)
    one_list x y e (failed f e1 g x1 a p) b = p ∙ sym (after_item (taken.Fault f) y e g a b)
    one_list x y e (refused t f e1 g x1 a k p) b = p ∙ sym (rw k at (after_item (taken.Token t) y e g a b))
    one_list x y e (plain t w e1 g rest x1 a k l p) b =
        let other = rw k at (after_item (taken.Token t) y e g a b) in
        p ∙ rw (one_list rest other.0 g l other.1) (sym other.2)
    one_list x y e (answered t answer e1 g h rest x1 a k o l p) b =
        let other = after_operand t (item_call a) (Ok answer) y g h o (rw k at (after_item (taken.Token t) y e g a b)) in
        p ∙ rw (one_list rest other.0 h l other.1) (sym other.2)
    one_list x y e (faulty t f e1 g h x1 a k o p) b =
        p ∙ sym (after_operand t (item_call a) (Err f) y g h o (rw k at (after_item (taken.Token t) y e g a b)))

  pub one_line : OneLine A
  one_line = one_list

pub one_operand_at : (level : ℕ) → OneOperand (answers_at level)
one_operand_at level = one_operand (answers_at level) (one_answer level)

pub one_line_at : (level : ℕ) → OneLine (answers_at level)
one_line_at level = one_line (answers_at level) (one_answer level)
