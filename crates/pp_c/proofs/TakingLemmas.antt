-- Entries that are written after others.
use Rattle.std.proofs.Common.{◌≡◌, ℕ, suc, ◌+◌, ◌^◌, ◌<◌, ◌≤◌, List, [], ◌∷◌, ◌++◌, length, sym, refl, ap, ◌∙◌, arith, append_assoc, length-append, add-zero}
use Rattle.pp_c.proofs.OverLemmas.{written_over-nil, written_over-append}
use Rattle.pp_c.specs.Entries.{Entry, bare, with_text, text_of, in_64_bits, placed, items_from, texts_of, room_of}
use Rattle.pp_c.specs.inner.Taking.{with_room, room_after, HaveRoom, Takes, written_over}
use Rattle.pp_c.specs.declared.items.Item.{Item}
use Rattle.pp_c.specs.declared.items.Sizes.{Sizes}
use Rattle.pp_c.specs.declared.output.Output.{Output}

pub length-items_from : (start : ℕ) (entries : List Entry) → length (items_from start entries) ≡ length entries
length-items_from start [] = refl
length-items_from start (entry ∷ entries) = ap (λ n. suc n) (length-items_from (start + length (text_of entry)) entries)

pub texts_of-append : (xs ys : List Entry) → texts_of (xs ++ ys) ≡ texts_of xs ++ texts_of ys
texts_of-append [] ys = refl
texts_of-append (x ∷ xs) ys = ap (λ t. text_of x ++ t) (texts_of-append xs ys) ∙ sym (append_assoc (text_of x) (texts_of xs) (texts_of ys))

pub items_from-append : (start : ℕ) (xs ys : List Entry)
    → items_from start (xs ++ ys) ≡ items_from start xs ++ items_from (start + length (texts_of xs)) ys
items_from-append start [] ys = rw add-zero
items_from-append start (x ∷ xs) ys =
    let e : start + length (text_of x) + length (texts_of xs) ≡ start + length (text_of x ++ texts_of xs) =
    omega (arith, length-append (text_of x) (texts_of xs)) in
    ap (λ l. placed start x ∷ l) (items_from-append (start + length (text_of x)) xs ys
    ∙ ap (λ n. items_from (start + length (text_of x)) xs ++ items_from n ys) e)

pub room_after-append : (sizes : Sizes) (xs ys : List Entry) → room_after sizes (xs ++ ys) ≡ room_after (room_after sizes xs) ys
room_after-append sizes [] ys = refl
room_after-append sizes (x ∷ xs) ys = room_after-append (with_room sizes x) xs ys

pub sizes_same : (a b c d : ℕ) → a ≡ c → b ≡ d → ◌≡◌ {A = Sizes} record { items = a; texts = b } record { items = c; texts = d }
sizes_same a b c d p q = cc

-- what is counted last is the count of all
pub room_after-is : (sizes : Sizes) (es : List Entry) → sizes.items < 2 ^ 64 → sizes.texts < 2 ^ 64
    → room_after sizes es ≡ record { items = in_64_bits (sizes.items + length es); texts = in_64_bits (sizes.texts + length (texts_of es)) }
room_after-is sizes [] i t = sizes_same _ _ _ _ (omega arith) (omega arith)
room_after-is sizes (bare item ∷ es) i t =
    room_after-is (with_room sizes (bare item)) es (omega arith) t ∙ sizes_same _ _ _ _ (omega arith) refl
room_after-is sizes (with_text item text ∷ es) i t =
    room_after-is (with_room sizes (with_text item text)) es (omega arith) (omega arith)
    ∙ sizes_same _ _ _ _ (omega arith) (omega (arith, length-append text (texts_of es)))

-- with nothing before
pub room_of_all : (sizes : Sizes) (es : List Entry) → sizes ≡ record { items = 0; texts = 0 } → room_after sizes es ≡ room_of es
room_of_all sizes es e =
    let none : Sizes = record { items = 0; texts = 0 } in
    rw e (room_after-is none es (omega arith) (omega arith) ∙ sizes_same _ _ _ _ (omega arith) (omega arith))

-- none
pub takes_none : (output : Output) → Takes output [] output
takes_none output = record {
  same_items = refl;
  same_texts = refl;
  items_room = refl;
  texts_room = refl;
  sizes = refl;
  items = λ h. sym (written_over-nil output.sizes.items output.items.now);
  texts = λ h. sym (written_over-nil output.sizes.texts output.texts.now);
}

-- items after others
items_then : (at start at' start' : ℕ) (xs ys : List Entry) (old between new : List Item) → at + length xs ≤ length old → at' ≡ at + length xs
    → start' ≡ start + length (texts_of xs) → between ≡ written_over at (items_from start xs) old
    → new ≡ written_over at' (items_from start' ys) between → new ≡ written_over at (items_from start (xs ++ ys)) old
items_then at start at' start' xs ys old between new h p q b n =
    let l = length-items_from start xs in
    n ∙ rw (b, p, q, items_from-append start xs ys, ← l) (written_over-append at (items_from start xs) (items_from (start + length (texts_of xs)) ys) old (rw l h))

-- texts after others
texts_then : (at at' : ℕ) (xs ys : List Entry) (old between new : List ℕ) → at + length (texts_of xs) ≤ length old → at' ≡ at + length (texts_of xs)
    → between ≡ written_over at (texts_of xs) old → new ≡ written_over at' (texts_of ys) between → new ≡ written_over at (texts_of (xs ++ ys)) old
texts_then at at' xs ys old between new h p b n =
    n ∙ rw (b, p, texts_of-append xs ys) (written_over-append at (texts_of xs) (texts_of ys) old h)

-- what has room with others has room before them
room_of_first : (output : Output) (xs ys : List Entry) → HaveRoom output (xs ++ ys) → HaveRoom output xs
room_of_first output xs ys h = record {
  items = omega (arith, h.items, length-append xs ys);
  texts = let e = length-append (texts_of xs) (texts_of ys) in
      let f : length (texts_of (xs ++ ys)) ≡ length (texts_of xs ++ texts_of ys) = ap length (texts_of-append xs ys) in
      omega (arith, h.texts, e, f);
}

-- how much is counted of what has room
pub exact_room : (old between : Output) (xs : List Entry) → length old.items.now < 2 ^ 63 → length old.texts.now < 2 ^ 63 → Takes old xs between
    → HaveRoom old xs → (between.sizes.items ≡ old.sizes.items + length xs) × (between.sizes.texts ≡ old.sizes.texts + length (texts_of xs))
exact_room old between xs i t first h =
    let p = h.items in
    let q = h.texts in
    let e = first.sizes ∙ room_after-is old.sizes xs (omega arith) (omega arith) in
    (ap (λ (s : Sizes). s.items) e ∙ omega arith, ap (λ (s : Sizes). s.texts) e ∙ omega arith)

-- and after them
pub room_of_last : (old between : Output) (xs ys : List Entry) → length old.items.now < 2 ^ 63 → length old.texts.now < 2 ^ 63 → Takes old xs between
    → HaveRoom old (xs ++ ys) → HaveRoom between ys
room_of_last old between xs ys i t first h =
    let e = exact_room old between xs i t first (room_of_first old xs ys h) in
    let f : length (texts_of (xs ++ ys)) ≡ length (texts_of xs ++ texts_of ys) = ap length (texts_of-append xs ys) in
    record {
      items = omega (arith, e.0, h.items, first.items_room, length-append xs ys);
      texts = omega (arith, e.1, h.texts, first.texts_room, f, length-append (texts_of xs) (texts_of ys));
    }

-- what has room after others has room with them
pub room_then : (old between : Output) (xs ys : List Entry) → length old.items.now < 2 ^ 63 → length old.texts.now < 2 ^ 63 → Takes old xs between
    → HaveRoom old xs → HaveRoom between ys → HaveRoom old (xs ++ ys)
room_then old between xs ys i t first h more =
    let e = exact_room old between xs i t first h in
    let f : length (texts_of (xs ++ ys)) ≡ length (texts_of xs ++ texts_of ys) = ap length (texts_of-append xs ys) in
    record {
      items = omega (arith, e.0, more.items, first.items_room, length-append xs ys);
      texts = omega (arith, e.1, more.texts, first.texts_room, f, length-append (texts_of xs) (texts_of ys));
    }

-- some and then others
pub takes_more : (old between new : Output) (xs ys : List Entry) → length old.items.now < 2 ^ 63 → length old.texts.now < 2 ^ 63
    → Takes old xs between → Takes between ys new → Takes old (xs ++ ys) new
takes_more old between new xs ys i t first last = record {
  same_items = last.same_items ∙ first.same_items;
  same_texts = last.same_texts ∙ first.same_texts;
  items_room = last.items_room ∙ first.items_room;
  texts_room = last.texts_room ∙ first.texts_room;
  sizes = last.sizes ∙ ap (λ s. room_after s ys) first.sizes ∙ sym (room_after-append old.sizes xs ys);
  items = λ h.
      let before = room_of_first old xs ys h in
      let e = exact_room old between xs i t first before in
      items_then old.sizes.items old.sizes.texts between.sizes.items between.sizes.texts xs ys old.items.now between.items.now new.items.now before.items e.0 e.1
      (first.items before) (last.items (room_of_last old between xs ys i t first h));
  texts = λ h.
      let before = room_of_first old xs ys h in
      let e = exact_room old between xs i t first before in
      texts_then old.sizes.texts between.sizes.texts xs ys old.texts.now between.texts.now new.texts.now before.texts e.1
      (first.texts before) (last.texts (room_of_last old between xs ys i t first h));
}
