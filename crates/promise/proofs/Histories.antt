-- Every call keeps the invariant; so every history does.
use Rattle.std.proofs.Common.{◌≡◌, ℕ, ◌+◌, ◌*◌, ◌≤◌, Bool, true, false, cond, eqb, leb, List, [], ◌∷◌, ◌++◌, length, Some, None, Option, sym, refl, ap, ◌∙◌, subst, arith}
use Rattle.std.proofs.lemmas.Bool.{leb-true}
use Rattle.machine.specs.Hands.{Machine}
use Rattle.machine.specs.Entry.{count}
use Rattle.machine.specs.Borrow.{granted, refused, refusal, Borrow, refuses}
use Rattle.machine.specs.Borrow as machine
use Rattle.machine.proofs.Counts.{none_some}
use Rattle.machine.proofs.Laws.{borrow_ends, borrow_only}
use Rattle.promise.specs.State.{State, Opening, page_size, part}
use Rattle.stores.specs.declared.faults.Layer.{Layer}
use Rattle.promise.specs.Serves.{Loan, loan_of, Request, to_borrow, to_view, to_alter, to_return, to_flush, Call, Answer, lends, shows, done, wrote, denied, by_machine, asked_borrow, good, asked, questions, borrowed, altered, taken_back, is_altered, flushed, Does, borrows, views, alters, returns, flushes, Serves, grants}
use Rattle.promise.specs.Serves as serves
use Rattle.promise.specs.Book.{Book, Event, event, noted, blank, book_from, book}
use Rattle.promise.specs.Facts.{Facts}
use Rattle.promise.specs.Promise.{Reaches, opens, goes_on, page_of_key, Kept, Promise, Standing, OneAnswer}
use Rattle.promise.proofs.Pages.{frame_at}
use Rattle.promise.proofs.Invariant.{Inv, ring_of, inv_unique, inv_begun, inv_sound, inv_facts}
use Rattle.promise.proofs.Frames.{carried, good-carries, inv_return, inv_alter}
use Rattle.promise.proofs.Lend.{inv_borrow}
use Rattle.promise.proofs.Flush.{inv_flush, flush_stores}

-- A REFUSAL IS A REFUSAL, and leaves the book as it is

pub record Denial (a : Answer) : Type 0 where
  pub layer : Layer
  pub number : ℕ
  pub is : a ≡ denied layer number

-- each answer to a question is nothing or a refusal
abbrev Denies : Option Answer → Type 0
Denies o = (a : Answer) → o ≡ Some a → Denial a

denies_none : Denies None
denies_none a h = none_some {A = Denial a} None a refl h

denies_some : (y : Layer) (n : ℕ) → Denies (Some (denied y n))
denies_some y n a h = record { layer = y; number = n; is = cc }

denies_cond : (b : Bool) (o p : Option Answer) → Denies o → Denies p → Denies (cond b o p)
denies_cond true o p h j = h
denies_cond false o p h j = j

denies_asked : (q : Request) (s : State) → Denies (asked q s)
denies_asked (to_borrow k) s = go (s.store.pages k)
  where
    machine : (o : Option ℕ) → Denies (by_machine o)
    machine None = denies_none
    machine (Some n) = denies_some serves.by_pool n

    go : (o : Option (List ℕ)) → Denies (asked_borrow k s o)
    go None = denies_some serves.by_store 9
    go (Some page) = machine (refusal s.count k s.machine)
denies_asked (to_view l) s = denies_cond (good l s) None (Some (denied serves.by_pool 12)) denies_none (denies_some serves.by_pool 12)
denies_asked (to_alter l offset new) s =
    denies_cond (good l s) (cond s.store.is_open (cond (leb (offset + length new) (page_size s)) None (Some (denied serves.by_pool 14))) (Some (denied serves.by_store 13))) (Some (denied serves.by_pool 12))
    (denies_cond s.store.is_open (cond (leb (offset + length new) (page_size s)) None (Some (denied serves.by_pool 14))) (Some (denied serves.by_store 13))
    (denies_cond (leb (offset + length new) (page_size s)) None (Some (denied serves.by_pool 14)) denies_none (denies_some serves.by_pool 14))
    (denies_some serves.by_store 13))
    (denies_some serves.by_pool 12)
denies_asked (to_return l) s = denies_cond (good l s) None (Some (denied serves.by_pool 12)) denies_none (denies_some serves.by_pool 12)
denies_asked to_flush s = denies_none

pub denies : (c : Call) (s : State) → Denies (questions c s)
denies c s =
    denies_cond (eqb c.bytes (s.count * page_size s)) (cond (eqb c.cells (2 * s.count)) (asked c.request s) (Some (denied serves.by_pool 4))) (Some (denied serves.by_pool 3))
    (denies_cond (eqb c.cells (2 * s.count)) (asked c.request s) (Some (denied serves.by_pool 4)) (denies_asked c.request s) (denies_some serves.by_pool 4))
    (denies_some serves.by_pool 3)

noted_denied : (b : Book) (q : Request) (y : Layer) (n : ℕ) → noted b q (denied y n) ≡ b
noted_denied b (to_borrow k) y n = refl
noted_denied b (to_view l) y n = refl
noted_denied b (to_alter l offset new) y n = refl
noted_denied b (to_return l) y n = refl
noted_denied b to_flush y n = refl

-- WHERE EVERY QUESTION HAD ITS YES

-- nothing in answer to two questions: the first had its yes, and so had the second
yes : (b : Bool) (o : Option Answer) (a : Answer) → cond b o (Some a) ≡ None → (b ≡ true) × (o ≡ None)
yes true o a h = (refl, h)
yes false o a h = none_some (Some a) a h refl

pub asked_none : (c : Call) (s : State) → questions c s ≡ None → asked c.request s ≡ None
asked_none c s h =
    let x = yes (eqb c.bytes (s.count * page_size s)) (cond (eqb c.cells (2 * s.count)) (asked c.request s) (Some (denied serves.by_pool 4))) (denied serves.by_pool 3) h in
    (yes (eqb c.cells (2 * s.count)) (asked c.request s) (denied serves.by_pool 4) x.1).1

pub lent_yes : (l : Loan) (s : State) → cond {A = Option Answer} (good l s) None (Some (denied serves.by_pool 12)) ≡ None → good l s ≡ true
lent_yes l s h = (yes (good l s) None (denied serves.by_pool 12) h).0

-- ONE CALL

pub does_inv : {q : Request} {s t : State} {a : Answer} (b : Book) → Does q s a t → asked q s ≡ None → Inv b s → Inv (noted b q a) t
does_inv b (borrows {s = s} {k = k} {page = page} {f = f} {r = r} {t = t} p w) h v = (inv_borrow b s k page f r t v p w).inv
does_inv b views h v = v
does_inv b (alters {s = s} {l = l} {offset = offset} {new = new}) h v =
    let x = yes (good l s) (cond s.store.is_open (cond (leb (offset + length new) (page_size s)) None (Some (denied serves.by_pool 14))) (Some (denied serves.by_store 13))) (denied serves.by_pool 12) h in
    let y = yes s.store.is_open (cond (leb (offset + length new) (page_size s)) None (Some (denied serves.by_pool 14))) (denied serves.by_store 13) x.1 in
    let z = yes (leb (offset + length new) (page_size s)) None (denied serves.by_pool 14) y.1 in
    inv_alter b s l offset new v x.0 y.0 (leb-true (offset + length new) (page_size s) z.0)
does_inv b (returns {s = s} {l = l}) h v = inv_return b s l v (lent_yes l s h)
does_inv b (flushes {s = s}) h v = inv_flush b s v

pub serves_inv : {s t : State} {a : Answer} (c : Call) (b : Book) → Serves c s a t → Inv b s → Inv (noted b c.request a) t
serves_inv c b (serves.refuses {s = s} {a = a} h) v =
    let x = denies c s a h in
    subst (λ y. Inv (noted b c.request y) s) (sym x.is) (subst (λ y. Inv y s) (sym (noted_denied b c.request x.layer x.number)) v)
serves_inv c b (grants {s = s} h d) v = does_inv b d (asked_none c s h) v

-- a view shows the page of its loan's key
pub shown : (b : Book) (s : State) (l : Loan) → Inv b s → good l s ≡ true → page_of_key b.pages (b.keys l.frame) ≡ Some (part s l.frame)
shown b s l v h =
    let f = l.frame in
    let x = carried f s (inv_unique b s v) (good-carries l s h) in
    let e = x.entry in
    let k = v.known e.key f e.loans e.altered (frame_at f (ring_of s) e x.lies) in
    ap (page_of_key b.pages) k.keys ∙ k.same

does_kept : {q : Request} {s t : State} {a : Answer} (b : Book) → Does q s a t → asked q s ≡ None → Inv b s → Kept b q a t
does_kept b (borrows {s = s} {k = k} {page = page} {f = f} {r = r} {t = t} p w) h v = record {
  view = λ l pg i j. let z : ◌≡◌ {A = ℕ} 0 1 = cc in absurd (omega arith);
  flush = λ n i j. let z : ◌≡◌ {A = ℕ} 0 1 = cc in absurd (omega arith);
  lend = λ k' l r' i j g.
      let e1 : k ≡ k' = cc in let e2 : loan_of f s.number ≡ l = cc in
      subst (λ y. b.keys l.frame ≡ Some y) e1 (subst (λ y. 1 ≤ b.loans y.frame → b.keys y.frame ≡ Some k) e2 (inv_borrow b s k page f r t v p w).keeps g);
}
does_kept b (views {s = s} {l = l}) h v = record {
  view = λ l' pg i j.
      let e1 : l ≡ l' = cc in let e2 : part s l.frame ≡ pg = cc in
      subst (λ y. page_of_key b.pages (b.keys y.frame) ≡ Some pg) e1 (shown b s l v (lent_yes l s h) ∙ ap Some e2);
  flush = λ n i j. let z : ◌≡◌ {A = ℕ} 0 1 = cc in absurd (omega arith);
  lend = λ k l' r i j. let z : ◌≡◌ {A = ℕ} 0 1 = cc in absurd (omega arith);
}
does_kept b (alters {s = s}) h v = record {
  view = λ l pg i j. let z : ◌≡◌ {A = ℕ} 0 1 = cc in absurd (omega arith);
  flush = λ n i j. let z : ◌≡◌ {A = ℕ} 0 1 = cc in absurd (omega arith);
  lend = λ k l r i j. let z : ◌≡◌ {A = ℕ} 0 1 = cc in absurd (omega arith);
}
does_kept b (returns {s = s}) h v = record {
  view = λ l pg i j. let z : ◌≡◌ {A = ℕ} 0 1 = cc in absurd (omega arith);
  flush = λ n i j. let z : ◌≡◌ {A = ℕ} 0 1 = cc in absurd (omega arith);
  lend = λ k l r i j. let z : ◌≡◌ {A = ℕ} 0 1 = cc in absurd (omega arith);
}
does_kept b (flushes {s = s}) h v = record {
  view = λ l pg i j. let z : ◌≡◌ {A = ℕ} 0 1 = cc in absurd (omega arith);
  flush = λ n i j k. flush_stores b s v k;
  lend = λ k l r i j. let z : ◌≡◌ {A = ℕ} 0 1 = cc in absurd (omega arith);
}

denied_kept : (b : Book) (q : Request) (a : Answer) (t : State) → Denial a → Kept b q a t
denied_kept b q a t x = let d = x.is in record {
  view = λ l pg i j. let z : ◌≡◌ {A = ℕ} 0 1 = cc in absurd (omega arith);
  flush = λ n i j. let z : ◌≡◌ {A = ℕ} 0 1 = cc in absurd (omega arith);
  lend = λ k l r i j. let z : ◌≡◌ {A = ℕ} 0 1 = cc in absurd (omega arith);
}

pub serves_kept : {s t : State} {a : Answer} (c : Call) (b : Book) → Serves c s a t → Inv b s → Kept b c.request a t
serves_kept c b (serves.refuses {s = s} {a = a} h) v = denied_kept b c.request a s (denies c s a h)
serves_kept c b (grants {s = s} h d) v = does_kept b d (asked_none c s h) v

-- EVERY HISTORY

book_more : (b : Book) (h : List Event) (e : Event) → book_from b (h ++ (e ∷ [])) ≡ noted (book_from b h) e.call.request e.answer
book_more b [] e = refl
book_more b (x ∷ h) e = book_more (noted b x.call.request x.answer) h e

pub reaches_inv : (o : Opening) {h : List Event} {s : State} → Reaches o h s → Inv (book o h) s
reaches_inv o opens = inv_begun o
reaches_inv o (goes_on {h = h} {s = s} {t = t} {c = c} {a = a} r d) =
    subst (λ b. Inv b t) (sym (book_more (blank o) h (event c a))) (serves_inv c (book o h) d (reaches_inv o r))

pub promised : Promise
promised = record {
  sound = λ o h s r. inv_sound (book o h) s (reaches_inv o r);
  kept = λ o h s t c a r d. serves_kept c (book o h) d (reaches_inv o r);
}

pub standing : Standing
standing o h s r = inv_facts (book o h) s (reaches_inv o r)

-- ONE ANSWER

does_only : {q : Request} {s t u : State} {a d : Answer} → Does q s a t → Does q s d u → (a ≡ d) × (t ≡ u)
does_only (borrows {s = s} {k = k} {page = page} {f = f} {r = r} {t = t} p w) (borrows {page = page'} {f = f'} {r = r'} {t = t'} p' w') =
    let x = borrow_only s.count k w w' in
    let x0 = x.0 in
    let ef : f ≡ f' = cc in let er : r ≡ r' = cc in let ep : page ≡ page' = cc in (
      ap (λ y. lends (loan_of y s.number) r) ef ∙ ap (λ y. lends (loan_of f' s.number) y) er,
      ap (λ y. borrowed r.outcome y page t s) ef ∙ ap (λ y. borrowed y.outcome f' page t s) er ∙ ap (λ y. borrowed r'.outcome f' y t s) ep ∙ ap (λ y. borrowed r'.outcome f' page' y s) x.1,
    )
does_only views views = (refl, refl)
does_only alters alters = (refl, refl)
does_only returns returns = (refl, refl)
does_only flushes flushes = (refl, refl)

serves_only : (c : Call) {s t u : State} {a d : Answer} → Serves c s a t → Serves c s d u → (a ≡ d) × (t ≡ u)
serves_only c (serves.refuses h) (serves.refuses j) = (cc, refl)
serves_only c (serves.refuses {s = s} {a = a} h) (grants j d) = none_some (questions c s) a j h
serves_only c (grants {s = s} h d) (serves.refuses {a = a} j) = none_some (questions c s) a h j
serves_only c (grants h d) (grants j e) = does_only d e

why_refused : (m : ℕ) (k : List ℕ) {s t : Machine} {n : ℕ} → Borrow m k s (refused n) t → refusal m k s ≡ Some n
why_refused m k (refuses h) = h

does_always : (q : Request) (s : State) → Facts s → asked q s ≡ None → (a : Answer) × (t : State) × Does q s a t
does_always (to_borrow k) s v h = go (s.store.pages k) refl h (borrow_ends s.count k s.machine v.well)
  where
    go : (o : Option (List ℕ)) → s.store.pages k ≡ o → asked_borrow k s o ≡ None → (a : machine.Answer) × (t : Machine) × Borrow s.count k s.machine a t → (a : Answer) × (t : State) × Does (to_borrow k) s a t
    go None j i x = none_some (Some (denied serves.by_store 9)) (denied serves.by_store 9) i refl
    go (Some page) j i (granted f r, t, w) = (lends (loan_of f s.number) r, borrowed r.outcome f page t s, borrows j w)
    go (Some page) j i (refused n, t, w) = let z = why_refused s.count k w in none_some (by_machine (Some n)) (denied serves.by_pool n) (subst (λ y. by_machine y ≡ None) z i) refl
does_always (to_view l) s v h = (shows (part s l.frame), s, views)
does_always (to_alter l offset new) s v h = (done, altered l offset new s, alters)
does_always (to_return l) s v h = (done, taken_back l s, returns)
does_always to_flush s v h = (wrote (count is_altered (ring_of s)), flushed s, flushes)

serves_always : (c : Call) (s : State) → Facts s → (a : Answer) × (t : State) × Serves c s a t
serves_always c s v = go (questions c s) refl
  where
    go : (o : Option Answer) → questions c s ≡ o → (a : Answer) × (t : State) × Serves c s a t
    go (Some a) h = (a, s, serves.refuses h)
    go None h = let x = does_always c.request s v (asked_none c s h) in (x.0, x.1, grants h x.2)

pub one_answer : OneAnswer
one_answer = record { always = serves_always; only = λ c s t u a d x y. serves_only c x y }
