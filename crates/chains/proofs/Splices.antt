-- What `Ends::push` and `Ends::unlink` do to a chain.
use Rattle.std.proofs.Common.{◌≡◌, ℕ, suc, ◌+◌, ◌-◌, ◌<◌, cond, eqb, ◌≢◌, List, [], ◌∷◌, ◌++◌, length, take, drop, Some, sym, refl, ap, ◌∙◌, subst, arith}
use lib.Seq.{split_at}
use Rattle.std.specs.List.{ContainsAt, AllByRecursion}
use Rattle.std.proofs.lemmas.List.{append-nil, length_push, length-append}
use Rattle.std.proofs.ByRecursion.{All-push, All-weaker, all-has}
use Rattle.std.proofs.lemmas.Bool.{ne_eqb, eq-eqb, cond-true, cond-false}
use Rattle.chains.specs.Cells.{next_of, prev_of, Put}
use Rattle.chains.specs.Orders.{From, last_of, first_of, Apart, Misses, without, walk, Chained, order_of, Sound}
use Rattle.keys.specs.declared.CellNo.{CellNo}
use Rattle.chains.specs.declared.cell.Links.{Links}
use Rattle.chains.specs.declared.cell.Cell.{Cell}
use Rattle.chains.specs.declared.cell.Chain.{Chain}
use Rattle.chains.specs.declared.ends.Ends.{Ends}
use Rattle.chains.proofs.Rounds.{walk_is, seam, grow, cut, cut_head, all_cut, apart_push, apart_cut, apart_before, apart_after, without_split}

-- the function finds the order that the relation has
module _ {T : Type 0} (c : List (Cell T)) (w : Chain) (ch : Ends) where
  pub order_is : (order : List ℕ) → Chained c w ch order → order_of c w (Some ch) ≡ order
  unfolding order_of
  order_is [] k = ap (walk (next_of c w) ch.tail.0) k.size
  order_is (x ∷ xs) k =
      ap (walk (next_of c w) ch.tail.0) k.size
      ∙ ap (λ a. walk (next_of c w) a (suc (length xs))) (sym k.first)
      ∙ walk_is (next_of c w) (prev_of c w) x xs k.round.2

  pub sound_from : (order : List ℕ) → Chained c w ch order → Sound c w (Some ch)
  unfolding Sound
  sound_from order k = subst (λ o. Chained c w ch o) (sym (order_is order k)) k

all_last : (P : ℕ → Type 0) (x : ℕ) (xs : List ℕ) → P x → AllByRecursion P xs → P (last_of x xs)
all_last P x [] h a = h
all_last P x (y ∷ ys) h a = all_last P y ys a.0 a.1

last_mid : (d : ℕ) (xs : List ℕ) (i : ℕ) (zs : List ℕ) → last_of d (xs ++ i ∷ zs) ≡ last_of i zs
last_mid d [] i zs = refl
last_mid d (x ∷ xs) i zs = last_mid x xs i zs

-- `push`

-- the first cell of a chain
pub alone : {T : Type 0} (c₀ c₁ : List (Cell T)) (w : Chain) (i : CellNo) (p : 0 < 1)
    → Put (next_of c₀ w) (next_of c₁ w) i.0 i.0 → Put (prev_of c₀ w) (prev_of c₁ w) i.0 i.0 → i.0 < length c₁
    → Chained c₁ w (record { tail = i; head = i; len = 1; some = p }) (i.0 ∷ [])
alone c₀ c₁ w i o n p l = record { size = refl; first = refl; last = refl; round = (n.here, p.here, tt); within = (l, tt); apart = (tt, tt) }

last_same : (h d : ℕ) (xs : List ℕ) → 0 < length xs → last_of h xs ≡ h → h ≡ last_of d xs
last_same h d [] l e = omega arith
last_same h d (x ∷ xs) l e = sym e

first_same : (t d : ℕ) (xs : List ℕ) → 0 < length xs → first_of t xs ≡ t → t ≡ first_of d xs
first_same t d [] l e = omega arith
first_same t d (x ∷ xs) l e = sym e

ends_have : (P : ℕ → Type 0) (h t : ℕ) (xs : List ℕ) → 0 < length xs → last_of h xs ≡ h → first_of t xs ≡ t → AllByRecursion P xs → P h × P t
ends_have P h t [] l e f a = let z : ⊥ = omega arith in absurd z
ends_have P h t (x ∷ xs) l e f a = (subst P e (all_last P x xs a.0 a.1), subst P f a.0)

first_push : (i t : ℕ) (order : List ℕ) → t ≡ first_of i order → first_of t (order ++ i ∷ []) ≡ t
first_push i t [] e = sym e
first_push i t (x ∷ xs) e = sym e

module _ (n₀ n₁ n₂ p₀ p₁ p₂ : ℕ → ℕ) (h i t : ℕ)
    (pn : Put n₀ n₁ h i) (pp : Put p₀ p₁ i h) (qn : Put n₁ n₂ i t) (qp : Put p₁ p₂ t i) where
  push_round : (hd : ℕ) (order : List ℕ) → h ≡ last_of i order → t ≡ first_of i order → last_of hd order ≡ hd
      → From n₀ p₀ hd order → Apart order → Misses i order → From n₂ p₂ i (order ++ i ∷ [])
  push_round hd [] he te l f a m = (qn.here ∙ te, ap p₂ (sym te) ∙ qp.here, tt)
  push_round hd (x ∷ xs) he te l f a m =
      let hi : h ≢ i = λ e. all_last (λ y. y ≢ i) x xs m.0 m.1 (sym he ∙ e) in (
        qn.here ∙ te,
        ap p₂ (sym te) ∙ qp.here,
        grow n₀ p₀ n₂ p₂ x i x xs f.2 m.0 m.1 a.0
            (ap n₂ (sym he) ∙ qn.there h hi ∙ pn.here)
            (qp.there i (λ e. m.0 (sym (e ∙ te))) ∙ pp.here ∙ he)
            (λ j ji nt. qn.there j ji ∙ pn.there j (λ e. nt (ap n₀ (e ∙ he ∙ l) ∙ f.0)))
            (λ j ji jt. qp.there j (λ e. jt (e ∙ te)) ∙ pp.there j ji),
      )

module _ {T : Type 0} (c₀ : List (Cell T)) (w : Chain) (ch : Ends) (order : List ℕ) (k : Chained c₀ w ch order) where
  head_is : (d : ℕ) → ch.head.0 ≡ last_of d order
  head_is d = last_same ch.head.0 d order (omega (arith, k.size, ch.some)) k.last

  tail_is : (d : ℕ) → ch.tail.0 ≡ first_of d order
  tail_is d = first_same ch.tail.0 d order (omega (arith, k.size, ch.some)) k.first

  pub within : (ch.head.0 < length c₀) × (ch.tail.0 < length c₀)
  within =
      let P = λ (j : ℕ). j < length c₀ in
      ends_have P ch.head.0 ch.tail.0 order (omega (arith, k.size, ch.some)) k.last k.first k.within

  pub pushed : (c₁ c₂ : List (Cell T)) (i : CellNo) (p : 0 < ch.len + 1) → i.0 < length c₀
      → Put (next_of c₀ w) (next_of c₁ w) ch.head.0 i.0 → Put (prev_of c₀ w) (prev_of c₁ w) i.0 ch.head.0
      → Put (next_of c₁ w) (next_of c₂ w) i.0 ch.tail.0 → Put (prev_of c₁ w) (prev_of c₂ w) ch.tail.0 i.0
      → length c₂ ≡ length c₀ → Misses i.0 order
      → Chained c₂ w (record { tail = ch.tail; head = i; len = ch.len + 1; some = p }) (order ++ i.0 ∷ [])
  pushed c₁ c₂ i p lt pn pp qn qp s m = record {
    size = ap (λ x. x + 1) k.size ∙ sym (length_push order i.0);
    first = first_push i.0 ch.tail.0 order (tail_is i.0);
    last = last_mid i.0 order i.0 [];
    round = push_round (next_of c₀ w) (next_of c₁ w) (next_of c₂ w) (prev_of c₀ w) (prev_of c₁ w) (prev_of c₂ w)
        ch.head.0 i.0 ch.tail.0 pn pp qn qp ch.head.0 order (head_is i.0) (tail_is i.0) k.last k.round k.apart m;
    within = All-push (λ j. j < length c₂) order i.0
        (All-weaker (λ j. j < length c₀) (λ j. j < length c₂) (λ j l. omega arith) order k.within) (omega arith);
    apart = apart_push order i.0 k.apart m;
  }

-- `unlink`

beyond_same : (at i past r : CellNo) → r ≡ cond (eqb at.0 i.0) past at → at.0 ≡ i.0 → r.0 ≡ past.0
beyond_same at i past r e s = ap (λ x. x.0) (e ∙ cond-true (eqb at.0 i.0) past at (eq-eqb at.0 i.0 s))

beyond_other : (at i past r : CellNo) → r ≡ cond (eqb at.0 i.0) past at → at.0 ≢ i.0 → r.0 ≡ at.0
beyond_other at i past r e s = ap (λ x. x.0) (e ∙ cond-false (eqb at.0 i.0) past at (ne_eqb at.0 i.0 s))

first_cut : (n p : ℕ → ℕ) (hd : ℕ) (tl i nx t : CellNo) → t ≡ cond (eqb tl.0 i.0) nx tl
    → (xs zs : List ℕ) → first_of tl.0 (xs ++ i.0 ∷ zs) ≡ tl.0 → From n p hd (xs ++ i.0 ∷ zs) → nx.0 ≡ n i.0
    → Misses i.0 xs → first_of t.0 (xs ++ zs) ≡ t.0
first_cut n p hd tl i nx t e [] [] f r ne m = refl
first_cut n p hd tl i nx t e [] (z ∷ zs) f r ne m = sym (beyond_same tl i nx t e (sym f) ∙ ne ∙ r.2.0)
first_cut n p hd tl i nx t e (x ∷ xs) zs f r ne m = f ∙ sym (beyond_other tl i nx t e (λ q. m.0 (f ∙ q)))

-- the predecessor of i's successor is i
module _ (n p : ℕ → ℕ) where
  there_back : (a : ℕ) (xs : List ℕ) (i z : ℕ) (zs : List ℕ) → From n p a (xs ++ i ∷ z ∷ zs) → p (n i) ≡ i
  there_back a [] i z zs f = ap p f.2.0 ∙ f.2.1
  there_back a (x ∷ xs) i z zs f = there_back x xs i z zs f.2

  round_back : (i : ℕ) (xs : List ℕ) → From n p i (xs ++ i ∷ []) → p (n i) ≡ i
  round_back i [] f = ap p f.0 ∙ f.1
  round_back i (x ∷ xs) f = ap p f.0 ∙ f.1

  last_seam : (i h a : ℕ) (xs : List ℕ) → From n p a (xs ++ i ∷ []) → h ≡ p i → last_of h xs ≡ h
  last_seam i h a [] f e = refl
  last_seam i h a (x ∷ xs) f e = sym (e ∙ (seam n p a (x ∷ xs) i [] f).1)

module _ (n p n' p' : ℕ → ℕ) (hd i pv nx h : CellNo)
    (he : h ≡ cond (eqb hd.0 i.0) pv hd) (pe : pv.0 ≡ p i.0) (ne : nx.0 ≡ n i.0)
    (tn : Put n n' pv.0 nx.0) (tp : Put p p' nx.0 pv.0) where
  hn : n' (p i.0) ≡ n i.0
  hn = ap n' (sym pe) ∙ tn.here ∙ ne

  hp : p' (n i.0) ≡ p i.0
  hp = ap p' (sym ne) ∙ tp.here ∙ pe

  kn : n (p i.0) ≡ i.0 → (j : ℕ) → n j ≢ i.0 → n' j ≡ n j
  kn b j nj = tn.there j (λ e. nj (ap n (e ∙ pe) ∙ b))

  kp : p (n i.0) ≡ i.0 → (j : ℕ) → p j ≢ i.0 → p' j ≡ p j
  kp b j pj = tp.there j (λ e. pj (ap p (e ∙ ne) ∙ b))

  forth : (a : ℕ) (xs zs : List ℕ) → From n p a (xs ++ i.0 ∷ zs) → n (p i.0) ≡ i.0
  forth a xs zs f = let s = seam n p a xs i.0 zs f in ap n s.1 ∙ s.0

  round_cut : (xs zs : List ℕ) → last_of hd.0 (xs ++ i.0 ∷ zs) ≡ hd.0 → From n p hd.0 (xs ++ i.0 ∷ zs)
      → Misses i.0 xs → Misses i.0 zs
      → (last_of h.0 (xs ++ zs) ≡ h.0) × From n' p' h.0 (xs ++ zs)
  round_cut xs [] l f mx mz =
      let hi : hd.0 ≡ i.0 = sym l ∙ last_mid hd.0 xs i.0 [] in
      let hh : h.0 ≡ p i.0 = beyond_same hd i pv h he hi ∙ pe in
      let f' : From n p i.0 (xs ++ i.0 ∷ []) = subst (λ a. From n p a (xs ++ i.0 ∷ [])) hi f in
      let r : From n' p' (p i.0) xs = cut_head n p n' p' i.0 (kn (forth i.0 xs [] f')) (kp (round_back n p i.0 xs f')) hn hp xs f' mx in
      rw append-nil (last_seam n p i.0 h.0 hd.0 xs f hh, subst (λ a. From n' p' a xs) (sym hh) r)
  round_cut xs (z ∷ zs) l f mx mz =
      let hl : last_of z zs ≡ hd.0 = sym (last_mid hd.0 xs i.0 (z ∷ zs)) ∙ l in
      let hi : hd.0 ≢ i.0 = λ e. all_last (λ y. y ≢ i.0) z zs mz.0 mz.1 (hl ∙ e) in
      let hh : h.0 ≡ hd.0 = beyond_other hd i pv h he hi in
      let r : From n' p' hd.0 (xs ++ z ∷ zs) =
      cut n p n' p' i.0 (kn (forth hd.0 xs (z ∷ zs) f)) (kp (there_back n p hd.0 xs i.0 z zs f)) hn hp hd.0 xs (z ∷ zs) f hi mx mz in
      (last_mid h.0 xs z zs ∙ hl ∙ sym hh, subst (λ a. From n' p' a (xs ++ z ∷ zs)) (sym hh) r)

pub unlinked_from : {T : Type 0} (c c' : List (Cell T)) (w : Chain) (ch : Ends) (i : CellNo) (around : Links) (t h : CellNo) (p : 0 < ch.len - 1) (xs zs : List ℕ)
    → Chained c w ch (xs ++ i.0 ∷ zs)
    → around.next.0 ≡ next_of c w i.0 → around.prev.0 ≡ prev_of c w i.0
    → Put (next_of c w) (next_of c' w) around.prev.0 around.next.0 → Put (prev_of c w) (prev_of c' w) around.next.0 around.prev.0
    → length c' ≡ length c
    → t ≡ cond (eqb ch.tail.0 i.0) around.next ch.tail → h ≡ cond (eqb ch.head.0 i.0) around.prev ch.head
    → Chained c' w (record { tail = t; head = h; len = ch.len - 1; some = p }) (xs ++ zs)
unlinked_from c c' w ch i around t h p xs zs k ne pe tn tp s te he =
    let mx = apart_before xs i.0 zs k.apart in
    let mz = apart_after xs i.0 zs k.apart in
    let r = round_cut (next_of c w) (prev_of c w) (next_of c' w) (prev_of c' w) ch.head i around.prev around.next h he pe ne tn tp xs zs k.last k.round mx mz in
    record {
      size = omega (arith, k.size, length-append xs zs, length-append xs (i.0 ∷ zs));
      first = first_cut (next_of c w) (prev_of c w) ch.head.0 ch.tail i around.next t te xs zs k.first k.round ne mx;
      last = r.0;
      round = r.1;
      within = All-weaker (λ j. j < length c) (λ j. j < length c') (λ j l. omega arith) (xs ++ zs) (all_cut (λ j. j < length c) xs i.0 zs k.within);
      apart = apart_cut xs i.0 zs k.apart;
    }

pub has_split : (o : List ℕ) (i : ℕ) → ContainsAt o i → (xs : List ℕ) × (zs : List ℕ) × (o ≡ xs ++ i ∷ zs)
has_split o i h = (
  take h.0 o,
  drop (suc h.0) o,
  split_at o h.0 0 h.1 ∙ ap (λ x. take h.0 o ++ x ∷ drop (suc h.0) o) (h.2 0),
)

all_left : (P : ℕ → Type 0) (xs ys : List ℕ) → AllByRecursion P (xs ++ ys) → AllByRecursion P xs
all_left P [] ys a = tt
all_left P (x ∷ xs) ys a = (a.0, all_left P xs ys a.1)

all_right : (P : ℕ → Type 0) (xs ys : List ℕ) → AllByRecursion P (xs ++ ys) → AllByRecursion P ys
all_right P [] ys a = a
all_right P (x ∷ xs) ys a = all_right P xs ys a.1

-- the neighbours of a cell of the chain are cells of the chain
module _ (P : ℕ → Type 0) (n p : ℕ → ℕ) where
  next_at : (a : ℕ) (xs : List ℕ) (i z : ℕ) (zs : List ℕ) → From n p a (xs ++ i ∷ z ∷ zs) → n i ≡ z
  next_at a [] i z zs f = f.2.0
  next_at a (x ∷ xs) i z zs f = next_at x xs i z zs f.2

  next_first : (a : ℕ) (xs : List ℕ) (i : ℕ) → From n p a (xs ++ i ∷ []) → AllByRecursion P (xs ++ i ∷ []) → P (n a)
  next_first a [] i f h = subst P (sym f.0) h.0
  next_first a (x ∷ xs) i f h = subst P (sym f.0) h.0

  next_in : (hd : ℕ) (xs : List ℕ) (i : ℕ) (zs : List ℕ) → last_of hd (xs ++ i ∷ zs) ≡ hd → From n p hd (xs ++ i ∷ zs)
      → AllByRecursion P (xs ++ i ∷ zs) → P (n i)
  next_in hd xs i [] l f h = subst (λ a. P (n a)) (sym l ∙ last_mid hd xs i []) (next_first hd xs i f h)
  next_in hd xs i (z ∷ zs) l f h = subst P (sym (next_at hd xs i z zs f)) (all_right P xs (i ∷ z ∷ zs) h).1.0

  prev_in : (hd : ℕ) (xs : List ℕ) (i : ℕ) (zs : List ℕ) → last_of hd (xs ++ i ∷ zs) ≡ hd → From n p hd (xs ++ i ∷ zs)
      → AllByRecursion P (xs ++ i ∷ zs) → P (p i)
  prev_in hd xs i zs l f h =
      let r = all_right P xs (i ∷ zs) h in
      let d : P hd = subst P (sym (last_mid hd xs i zs) ∙ l) (all_last P i zs r.0 r.1) in
      subst P (sym (seam n p hd xs i zs f).1) (all_last P hd xs d (all_left P xs (i ∷ zs) h))

-- all that `unlink` needs of a cell i of the chain
pub record Neighbours {T : Type 0} (c : List (Cell T)) (w : Chain) (ch : Ends) (i : ℕ) : Type 0 where
  pub here : i < length c
  pub ahead : next_of c w i < length c
  pub back : prev_of c w i < length c
  pub some : 0 < ch.len

pub neighbours : {T : Type 0} (c : List (Cell T)) (w : Chain) (ch : Ends) (i : ℕ) (o : List ℕ) → Chained c w ch o → ContainsAt o i → Neighbours c w ch i
neighbours c w ch i o k h =
    let s = has_split o i h in
    let l = subst (λ o. last_of ch.head.0 o ≡ ch.head.0) s.2 k.last in
    let f = subst (λ o. From (next_of c w) (prev_of c w) ch.head.0 o) s.2 k.round in
    let a = subst (λ o. AllByRecursion (λ j. j < length c) o) s.2 k.within in
    record {
      here = all-has (λ j. j < length c) o i k.within h;
      ahead = next_in (λ j. j < length c) (next_of c w) (prev_of c w) ch.head.0 s.0 i s.1 l f a;
      back = prev_in (λ j. j < length c) (next_of c w) (prev_of c w) ch.head.0 s.0 i s.1 l f a;
      some = omega (arith, h.1, k.size);
    }

-- the chain without i
cut_out : {T : Type 0} (c : List (Cell T)) (w : Chain) (ch : Ends) (i : ℕ) (xs zs : List ℕ) → Chained c w ch (xs ++ i ∷ zs)
    → without i (xs ++ i ∷ zs) ≡ xs ++ zs
cut_out c w ch i xs zs k = without_split xs i zs (apart_before xs i zs k.apart) (apart_after xs i zs k.apart)

pub unlinked : {T : Type 0} (c c' : List (Cell T)) (w : Chain) (ch : Ends) (i : CellNo) (around : Links) (t h : CellNo) (p : 0 < ch.len - 1) (o : List ℕ)
    → Chained c w ch o → ContainsAt o i.0
    → around.next.0 ≡ next_of c w i.0 → around.prev.0 ≡ prev_of c w i.0
    → Put (next_of c w) (next_of c' w) around.prev.0 around.next.0 → Put (prev_of c w) (prev_of c' w) around.next.0 around.prev.0
    → length c' ≡ length c
    → t ≡ cond (eqb ch.tail.0 i.0) around.next ch.tail → h ≡ cond (eqb ch.head.0 i.0) around.prev ch.head
    → Chained c' w (record { tail = t; head = h; len = ch.len - 1; some = p }) (without i.0 o)
unlinked c c' w ch i around t h p o k m ne pe tn tp s te he =
    let q = has_split o i.0 m in
    let k' : Chained c w ch (q.0 ++ i.0 ∷ q.1) = subst (λ o. Chained c w ch o) q.2 k in
    let e : without i.0 o ≡ q.0 ++ q.1 =
    ap (without i.0) q.2 ∙ cut_out c w ch i.0 q.0 q.1 k' in
    subst (λ o. Chained c' w (record { tail = t; head = h; len = ch.len - 1; some = p }) o) (sym e)
    (unlinked_from c c' w ch i around t h p q.0 q.1 k' ne pe tn tp s te he)

-- the last cell of a chain leaves it
no_length : (l : List ℕ) → length l ≡ 0 → [] ≡ l
no_length [] e = refl
no_length (x ∷ xs) e = let z : ⊥ = omega arith in absurd z

pub none_left : {T : Type 0} (c : List (Cell T)) (w : Chain) (ch : Ends) (i : ℕ) (o : List ℕ) → Chained c w ch o → ContainsAt o i → ch.len ≡ 1 → [] ≡ without i o
none_left c w ch i o k m e =
    let q = has_split o i m in
    let k' : Chained c w ch (q.0 ++ i ∷ q.1) = subst (λ o. Chained c w ch o) q.2 k in
    no_length (q.0 ++ q.1) (omega (arith, k'.size, length-append q.0 q.1, length-append q.0 (i ∷ q.1))) ∙ sym (ap (without i) q.2 ∙ cut_out c w ch i q.0 q.1 k')
