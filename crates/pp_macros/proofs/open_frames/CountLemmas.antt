-- How many frames have a number.
use Rattle.std.proofs.Common.{◌≡◌, ◌≢◌, ◌∙◌, ◌⊎◌, inl, inr, ℕ, zero, suc, ◌+◌, ◌-◌, ◌<◌, ◌≤◌, Bool, true, false, ◌||◌, List, [], ◌∷◌, ◌++◌, length, get_or, set, reverse, refl, sym, ap, subst, arith, tests, Bor, Some}
use Rattle.std.specs.Prelude.{◌==◌, nat_lt, slice_index_or, if◌then◌else◌}
use Rattle.std.specs.Slice.{IsItemAt}
use Rattle.std.specs.List.{list_any}
use Rattle.std.proofs.lemmas.Bool.{eq-eqb, ne_eqb, ltb-true}
use Rattle.std.proofs.lemmas.Grind.{get_or_default_zero}
use Rattle.std.proofs.lemmas.Bool.Decides.{Decides-eqb}
use Rattle.std.proofs.lemmas.List.{reverse-append, get_or-set_same, get_or-set_other}
use Rattle.std.proofs.lemmas.List.Folds.{list_any-append}
use Rattle.pp_macros.specs.inner.Frames.{Frame, AreCounted, count_of}

-- one more, if it has the number
abbrev pub one : ℕ → Frame → ℕ
one k f = if f.number == k then 1 else 0

count-cons : (k : ℕ) (f : Frame) (fs : List Frame) → count_of k (f ∷ fs) ≡ one k f + count_of k fs
count-cons k f fs = by (f.number == k)
  where
    by : (b : Bool) → (if b then suc (count_of k fs) else count_of k fs) ≡ (if b then 1 else 0) + count_of k fs
    by true = omega arith
    by false = omega arith

pub count-append : (k : ℕ) (fs : List Frame) (f : Frame) → count_of k (fs ++ f ∷ []) ≡ count_of k fs + one k f
count-append k [] f = let e = count-cons k f [] in omega (arith, e)
count-append k (g ∷ gs) f =
    let e = count-cons k g (gs ++ f ∷ []) in
    let h = count-cons k g gs in
    let more = count-append k gs f in
    omega (arith, e, h, more)

pub count-le : (k : ℕ) (fs : List Frame) → count_of k fs ≤ length fs
count-le k [] = omega arith
count-le k (f ∷ fs) = by (f.number == k) (count-le k fs)
  where
    by : (b : Bool) → count_of k fs ≤ length fs → (if b then suc (count_of k fs) else count_of k fs) ≤ length (f ∷ fs)
    by true h = omega arith
    by false h = omega arith

-- another frame with the same number
count-set : (k : ℕ) (fs : List Frame) (i : ℕ) (d v : Frame) → i < length fs → v.number ≡ (get_or fs i d).number → count_of k (set fs i v) ≡ count_of k fs
count-set k [] i d v within same = absurd (omega (arith, within))
count-set k (f ∷ fs) zero d v within same = ap (λ (n : ℕ). if n == k then suc (count_of k fs) else count_of k fs) same
count-set k (f ∷ fs) (suc i) d v within same =
    ap (λ (c : ℕ). if f.number == k then suc c else c) (count-set k fs i d v (omega (arith, within)) same)

pub counted_kept : (counts : List ℕ) (fs : List Frame) (f v : Frame) (i : ℕ) → i < length fs → f ≡ get_or fs i f → v.number ≡ f.number
    → AreCounted counts fs → AreCounted counts (set fs i v)
counted_kept counts fs f v i within at same are =
    λ k. are k ∙ sym (count-set k fs i f v within (same ∙ ap (λ (g : Frame). g.number) at))

-- some frame has the number if they are not none
any_count : (k : ℕ) (fs : List Frame) → ((count_of k fs ≡ 0) × (list_any (λ (f : Frame). f.number == k) fs ≡ false))
    ⊎ ((0 < count_of k fs) × (list_any (λ (f : Frame). f.number == k) fs ≡ true))
any_count k [] = inl (refl, refl)
any_count k (f ∷ fs) = by (f.number == k) (any_count k fs)
  where
    by : (b : Bool) → ((count_of k fs ≡ 0) × (list_any (λ (f : Frame). f.number == k) fs ≡ false))
        ⊎ ((0 < count_of k fs) × (list_any (λ (f : Frame). f.number == k) fs ≡ true))
        → (((if b then suc (count_of k fs) else count_of k fs) ≡ 0) × ((b || list_any (λ (f : Frame). f.number == k) fs) ≡ false))
        ⊎ ((0 < (if b then suc (count_of k fs) else count_of k fs)) × ((b || list_any (λ (f : Frame). f.number == k) fs) ≡ true))
    by true h = inr (omega arith, refl)
    by false h = h

or_comm : (a b : Bool) → (a || b) ≡ (b || a)
or_comm true true = refl
or_comm true false = refl
or_comm false true = refl
or_comm false false = refl

any-reverse : (p : Frame → Bool) (fs : List Frame) → list_any p (reverse fs) ≡ list_any p fs
any-reverse p [] = refl
any-reverse p (f ∷ fs) =
    ap (list_any p) (reverse-append (f ∷ []) fs) ∙ list_any-append p (reverse fs) (f ∷ []) ∙ or_comm (list_any p (reverse fs)) (p f || false)
    ∙ ap (λ (b : Bool). (p f || false) || b) (any-reverse p fs) ∙ last (p f) (list_any p fs)
  where
    last : (a b : Bool) → ((a || false) || b) ≡ (a || b)
    last true b = refl
    last false b = refl

-- the counts tell whether a frame has the number
some_counted : (counts : List ℕ) (fs : List Frame) (k : ℕ) → AreCounted counts fs → 0 < slice_index_or counts k 0
    → list_any (λ (f : Frame). f.number == k) (reverse fs) ≡ true
some_counted counts fs k are some = any-reverse (λ (f : Frame). f.number == k) fs ∙ by (any_count k fs)
  where
    by : ((count_of k fs ≡ 0) × (list_any (λ (f : Frame). f.number == k) fs ≡ false))
        ⊎ ((0 < count_of k fs) × (list_any (λ (f : Frame). f.number == k) fs ≡ true)) → list_any (λ (f : Frame). f.number == k) fs ≡ true
    by (inl h) = absurd (let e = are k in let n = h.0 in omega (arith, e, n, some))
    by (inr h) = h.1

none_counted : (counts : List ℕ) (fs : List Frame) (k : ℕ) → AreCounted counts fs → slice_index_or counts k 0 ≡ 0
    → list_any (λ (f : Frame). f.number == k) (reverse fs) ≡ false
none_counted counts fs k are none = any-reverse (λ (f : Frame). f.number == k) fs ∙ by (any_count k fs)
  where
    by : ((count_of k fs ≡ 0) × (list_any (λ (f : Frame). f.number == k) fs ≡ false))
        ⊎ ((0 < count_of k fs) × (list_any (λ (f : Frame). f.number == k) fs ≡ true)) → list_any (λ (f : Frame). f.number == k) fs ≡ false
    by (inl h) = h.1
    by (inr h) = absurd (let e = are k in let n = h.0 in omega (arith, e, n, none))

pub any_counted : (counts : List ℕ) (fs : List Frame) (k : ℕ) (count : Bor ℕ) → AreCounted counts fs → IsItemAt counts k (Some count)
    → nat_lt 0 count.now ≡ list_any (λ (f : Frame). f.number == k) (reverse fs)
any_counted counts fs k count are is =
    let within : k < length counts = grind (arith, tests, is.0) in
    let at : count.now ≡ slice_index_or counts k 0 = is.1 ∙ get_or_default_zero counts k count.now within in
    by (nat_lt 0 count.now) refl at
  where
    by : (b : Bool) → nat_lt 0 count.now ≡ b → count.now ≡ slice_index_or counts k 0 → b ≡ list_any (λ (f : Frame). f.number == k) (reverse fs)
    by true some at = sym (some_counted counts fs k are (rw (← at) (ltb-true 0 count.now some)))
    by false none at = sym (none_counted counts fs k are (let h : count.now ≤ 0 = grind (arith, tests, none) in omega (arith, h, at)))

pub past_counted : (counts : List ℕ) (fs : List Frame) (k : ℕ) → AreCounted counts fs → length counts ≤ k
    → false ≡ list_any (λ (f : Frame). f.number == k) (reverse fs)
past_counted counts fs k are past = sym (none_counted counts fs k are (past_zero counts k past))
  where
    past_zero : (counts : List ℕ) (k : ℕ) → length counts ≤ k → slice_index_or counts k 0 ≡ 0
    past_zero [] zero past = refl
    past_zero [] (suc k) past = refl
    past_zero (c ∷ counts) zero past = absurd (omega (arith, past))
    past_zero (c ∷ counts) (suc k) past = past_zero counts k (omega (arith, past))

cases_eq : (k n : ℕ) → (k ≡ n) ⊎ (k ≢ n)
cases_eq k n = by (k == n) refl
  where
    by : (b : Bool) → (k == n) ≡ b → (k ≡ n) ⊎ (k ≢ n)
    by true e = inl ((Decides-eqb k n).0 e)
    by false e = inr (λ same. let bad : true ≡ false = sym (eq-eqb k n same) ∙ e in cc)

one_same : (k : ℕ) (f : Frame) → k ≡ f.number → one k f ≡ 1
one_same k f same = ap (λ (b : Bool). if b then 1 else 0) (eq-eqb f.number k (sym same))

one_other : (k : ℕ) (f : Frame) → k ≢ f.number → one k f ≡ 0
one_other k f other = ap (λ (b : Bool). if b then 1 else 0) (ne_eqb f.number k (λ e. other (sym e)))

-- one more opens
counted_opened : (counts grown : List ℕ) (fs : List Frame) (f : Frame) (c : ℕ) → AreCounted counts fs
    → ((k : ℕ) → slice_index_or grown k 0 ≡ slice_index_or counts k 0) → f.number < length grown → c ≡ slice_index_or grown f.number 0 + 1
    → AreCounted (set grown f.number c) (fs ++ f ∷ [])
counted_opened counts grown fs f c are same room is = λ k. by k (cases_eq k f.number)
  where
    by : (k : ℕ) → (k ≡ f.number) ⊎ (k ≢ f.number) → slice_index_or (set grown f.number c) k 0 ≡ count_of k (fs ++ f ∷ [])
    by k (inl e) =
        let here : slice_index_or (set grown f.number c) f.number 0 ≡ c = get_or-set_same grown f.number c 0 room in
        let more = count-append f.number fs f in
        let added = one_same f.number f refl in
        let was = are f.number in
        let grew = same f.number in
        rw e (omega (arith, here, is, more, added, was, grew))
    by k (inr e) =
        let here : slice_index_or (set grown f.number c) k 0 ≡ slice_index_or grown k 0 = get_or-set_other grown f.number k c 0 e in
        let more = count-append k fs f in
        let added = one_other k f e in
        let was = are k in
        let grew = same k in
        omega (arith, here, more, added, was, grew)

-- a count of 0 at the end
pub zero_pushed : (counts : List ℕ) (k : ℕ) → slice_index_or (counts ++ 0 ∷ []) k 0 ≡ slice_index_or counts k 0
zero_pushed [] zero = refl
zero_pushed [] (suc k) = refl
zero_pushed (c ∷ counts) zero = refl
zero_pushed (c ∷ counts) (suc k) = zero_pushed counts k

-- the last of them closes
pub some_last : (counts : List ℕ) (fs : List Frame) (f : Frame) → AreCounted counts (fs ++ f ∷ []) → 0 < slice_index_or counts f.number 0
some_last counts fs f are =
    let more = count-append f.number fs f in
    let added = one_same f.number f refl in
    let was = are f.number in
    omega (arith, more, added, was)

pub within_counts : (counts : List ℕ) (k : ℕ) → 0 < slice_index_or counts k 0 → k < length counts
within_counts [] k some = absurd (omega (arith, some))
within_counts (c ∷ counts) zero some = omega arith
within_counts (c ∷ counts) (suc k) some = let h = within_counts counts k some in omega (arith, h)

counted_closed : (counts : List ℕ) (fs : List Frame) (f : Frame) (c : ℕ) → AreCounted counts (fs ++ f ∷ []) → c ≡ slice_index_or counts f.number 0 - 1
    → AreCounted (set counts f.number c) fs
counted_closed counts fs f c are is = λ k. by k (cases_eq k f.number)
  where
    by : (k : ℕ) → (k ≡ f.number) ⊎ (k ≢ f.number) → slice_index_or (set counts f.number c) k 0 ≡ count_of k fs
    by k (inl e) =
        let some = some_last counts fs f are in
        let here : slice_index_or (set counts f.number c) f.number 0 ≡ c = get_or-set_same counts f.number c 0 (within_counts counts f.number some) in
        let more = count-append f.number fs f in
        let added = one_same f.number f refl in
        let was = are f.number in
        rw e (omega (arith, here, is, more, added, was))
    by k (inr e) =
        let here : slice_index_or (set counts f.number c) k 0 ≡ slice_index_or counts k 0 = get_or-set_other counts f.number k c 0 e in
        let more = count-append k fs f in
        let added = one_other k f e in
        let was = are k in
        omega (arith, here, more, added, was)

-- the same as the code counts
pub counted_put : (counts grown : List ℕ) (fs : List Frame) (f : Frame) (n v : ℕ) → n ≡ f.number → AreCounted counts fs
    → ((k : ℕ) → slice_index_or grown k 0 ≡ slice_index_or counts k 0) → n < length grown → v ≡ slice_index_or grown n v
    → AreCounted (set grown n (v + 1)) (fs ++ f ∷ [])
counted_put counts grown fs f n v named are same room is =
    let at = is ∙ get_or_default_zero grown n v room in
    let here : v + 1 ≡ slice_index_or grown f.number 0 + 1 = ap (λ (x : ℕ). x + 1) (at ∙ ap (λ (k : ℕ). slice_index_or grown k 0) named) in
    rw named (counted_opened counts grown fs f (v + 1) are same (rw named at room) here)

pub put_least : (counts grown : List ℕ) (fs : List Frame) (n v : ℕ) → AreCounted counts fs → ((k : ℕ) → slice_index_or grown k 0 ≡ slice_index_or counts k 0)
    → n < length grown → v ≡ slice_index_or grown n v → v ≤ length fs
put_least counts grown fs n v are same room is =
    let at = is ∙ get_or_default_zero grown n v room in
    let was = are n in
    let grew = same n in
    let few = count-le n fs in
    omega (arith, at, was, grew, few)

pub cut_within : (counts : List ℕ) (all fs : List Frame) (f : Frame) (n : ℕ) → all ≡ fs ++ f ∷ [] → n ≡ f.number → AreCounted counts all → n < length counts
cut_within counts all fs f n whole named are =
    rw named (within_counts counts f.number (some_last counts fs f (subst (AreCounted counts) whole are)))

pub cut_some : (counts : List ℕ) (all fs : List Frame) (f : Frame) (n v : ℕ) → all ≡ fs ++ f ∷ [] → n ≡ f.number → AreCounted counts all
    → v ≡ slice_index_or counts n v → 1 ≤ v
cut_some counts all fs f n v whole named are is =
    let at = is ∙ get_or_default_zero counts n v (cut_within counts all fs f n whole named are) ∙ ap (λ (k : ℕ). slice_index_or counts k 0) named in
    let some = some_last counts fs f (subst (AreCounted counts) whole are) in
    omega (arith, at, some)

pub counted_cut : (counts : List ℕ) (all fs : List Frame) (f : Frame) (n v : ℕ) → all ≡ fs ++ f ∷ [] → n ≡ f.number → AreCounted counts all
    → v ≡ slice_index_or counts n v → AreCounted (set counts n (v - 1)) fs
counted_cut counts all fs f n v whole named are is =
    let at = is ∙ get_or_default_zero counts n v (cut_within counts all fs f n whole named are) ∙ ap (λ (k : ℕ). slice_index_or counts k 0) named in
    rw named (counted_closed counts fs f (v - 1) (subst (AreCounted counts) whole are) (ap (λ (x : ℕ). x - 1) at))
