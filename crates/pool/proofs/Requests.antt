-- What a view, an alteration and a return owe, from what their code does.
use Rattle.std.proofs.Common.{◌≡◌, ℕ, ◌+◌, ◌-◌, ◌*◌, ◌<◌, ◌≤◌, true, false, eqb, ltb, List, ◌++◌, length, take, drop, None, sym, ap, ◌∙◌, ap₂, arith, length-drop, length-take}
use borrow.Rule.Slice.PartMut.{put_mid}
use Rattle.std.proofs.lemmas.List.{drop-drop}
use Rattle.std.proofs.lemmas.Nat.{mul-le}
use Rattle.std.proofs.lemmas.Bool.{cond-true, and_parts, le-leb, lt-leb}
use Rattle.machine.specs.Hands.{Machine}
use Rattle.machine.specs.Borrow.{carries, returned, give_back, mark_page}
use Rattle.stores.specs.Parts.{laid}
use Rattle.promise.specs.State.{part}
use Rattle.promise.specs.Serves as serves
use Rattle.promise.specs.Serves.{Loan, Answer, shows, done, denied, by_pool, by_store, to_view, to_alter, to_return, good, asked, views, alters, returns, Serves}
use Rattle.promise.proofs.Uses.{owed}
use Rattle.pool.specs.Asked.{Holding, state, sizes_of, Supposed}
use Rattle.pool.specs.Reading.{call_of}
use Rattle.pool.proofs.Sizes.{fit_frames, refused_served, granted_served, good-below, within}

-- a part of the frame bytes that was filled anew
pub put_laid : (a k : ℕ) (xs ys page : List ℕ) → ys ≡ page → length ys ≡ k → put_mid a k xs ys ≡ laid a page xs
put_laid a k xs ys page e l =
    let d : drop k (drop a xs) ≡ drop (a + length page) xs = drop-drop k a xs ∙ ap (λ n. drop (a + n) xs) (sym l ∙ ap length e) in
    ap₂ (λ u v. take a xs ++ (u ++ v)) e d

pub kept_length : (xs ys : List ℕ) (a k : ℕ) → length ys ≡ length (take k (drop a xs)) → a + k ≤ length xs → length ys ≡ k
kept_length xs ys a k h i = h ∙ simp (length-take, length-drop) (omega arith)

-- where the page under a good loan lies
pub record Placed {K : Type 0} (h : Holding K) (p f : ℕ) : Type 0 where
  pub within : f * p + p ≤ length h.frames
  pub small : f * p + p ≤ 16777216

pub placed : {K : Type 0} (meaning : K → List ℕ) (h : Holding K) (p : ℕ) (l : Loan) → p ≡ h.store.size → sizes_of h ≡ None → Supposed meaning h → good l (state meaning h) ≡ true →
    Placed h p l.frame
placed meaning h p l i e r g =
    let s = state meaning h in
    let b = good-below s l (owed.facts s (r e).led) g in
    let x = within l.frame h.pool.frames h.store.size (length h.frames) b (fit_frames h e) in
    let m = owed.limits s (r e).led in
    let y : h.pool.frames * h.store.size ≤ 4096 * 4096 = mul-le h.pool.frames h.store.size 4096 4096 m.count_high m.size_high in
    let n = fit_frames h e in
    rw i (record { within = x; small = omega arith })

-- A VIEW

pub view_denied : {K : Type 0} (meaning : K → List ℕ) (h : Holding K) (l : Loan) → sizes_of h ≡ None → good l (state meaning h) ≡ false →
    Serves (call_of (to_view l) h.frames h.cells) (state meaning h) (denied by_pool 12) (state meaning h)
view_denied meaning h l e g = refused_served meaning (to_view l) h (denied by_pool 12) e (rw g)

pub view_served : {K : Type 0} (meaning : K → List ℕ) (h : Holding K) (p : ℕ) (l : Loan) → p ≡ h.store.size → sizes_of h ≡ None → good l (state meaning h) ≡ true →
    Serves (call_of (to_view l) h.frames h.cells) (state meaning h) (shows (take ((l.frame * p + p) - l.frame * p) (drop (l.frame * p) h.frames))) (state meaning h)
view_served meaning h p l i e g =
    let s = state meaning h in
    let x : (l.frame * h.store.size + h.store.size) - l.frame * h.store.size ≡ h.store.size = omega arith in
    rw (i, x) (granted_served meaning (to_view l) h (shows (part s l.frame)) s e (rw g) views)

-- AN ALTERATION

pub alter_denied : {K : Type 0} (meaning : K → List ℕ) (h : Holding K) (l : Loan) (offset : ℕ) (new : List ℕ) → sizes_of h ≡ None → good l (state meaning h) ≡ false →
    Serves (call_of (to_alter l offset new) h.frames h.cells) (state meaning h) (denied by_pool 12) (state meaning h)
alter_denied meaning h l offset new e g = refused_served meaning (to_alter l offset new) h (denied by_pool 12) e (rw g)

pub alter_sealed : {K : Type 0} (meaning : K → List ℕ) (h : Holding K) (l : Loan) (offset : ℕ) (new : List ℕ) → sizes_of h ≡ None → good l (state meaning h) ≡ true → h.store.is_open ≡ false →
    Serves (call_of (to_alter l offset new) h.frames h.cells) (state meaning h) (denied by_store 13) (state meaning h)
alter_sealed meaning h l offset new e g o = refused_served meaning (to_alter l offset new) h (denied by_store 13) e (rw (g, o))

pub alter_past : {K : Type 0} (meaning : K → List ℕ) (h : Holding K) (l : Loan) (offset : ℕ) (new : List ℕ) → sizes_of h ≡ None → good l (state meaning h) ≡ true → h.store.is_open ≡ true →
    h.store.size < offset + length new →
    Serves (call_of (to_alter l offset new) h.frames h.cells) (state meaning h) (denied by_pool 14) (state meaning h)
alter_past meaning h l offset new e g o b =
    refused_served meaning (to_alter l offset new) h (denied by_pool 14) e (rw (g, o, lt-leb (offset + length new) h.store.size b))

pub alter_served : {K : Type 0} (meaning : K → List ℕ) (h : Holding K) (p : ℕ) (l : Loan) (offset : ℕ) (new frames : List ℕ) (t : Machine) → p ≡ h.store.size → sizes_of h ≡ None →
    good l (state meaning h) ≡ true → h.store.is_open ≡ true → offset + length new ≤ p →
    frames ≡ laid (l.frame * p + offset) new h.frames → t ≡ mark_page l.frame true (state meaning h).machine →
    Serves (call_of (to_alter l offset new) h.frames h.cells) (state meaning h) done
    (record { number = h.pool.number.0; count = h.pool.frames; machine = t; bytes = frames; store = h.store })
alter_served meaning h p l offset new frames t i e g o b x y =
    let s = state meaning h in
    let q : asked (to_alter l offset new) s ≡ None = rw (g, o, le-leb (offset + length new) h.store.size (omega arith)) in
    let d = granted_served meaning (to_alter l offset new) h done (serves.altered l offset new s) e q alters in
    rw (x, y, i) d

-- A RETURN

pub return_denied : {K : Type 0} (meaning : K → List ℕ) (h : Holding K) (l : Loan) → sizes_of h ≡ None → good l (state meaning h) ≡ false →
    Serves (call_of (to_return l) h.frames h.cells) (state meaning h) (denied by_pool 12) (state meaning h)
return_denied meaning h l e g = refused_served meaning (to_return l) h (denied by_pool 12) e (rw g)

pub return_served : {K : Type 0} (meaning : K → List ℕ) (h : Holding K) (l : Loan) (t : Machine) → sizes_of h ≡ None → good l (state meaning h) ≡ true → t ≡ give_back l.frame (state meaning h).machine →
    Serves (call_of (to_return l) h.frames h.cells) (state meaning h) done
    (record { number = h.pool.number.0; count = h.pool.frames; machine = t; bytes = h.frames; store = h.store })
return_served meaning h l t e g x =
    let s = state meaning h in
    let d = granted_served meaning (to_return l) h done (serves.taken_back l s) e (rw g) returns in
    let c = (and_parts (eqb l.pool s.number) (ltb 0 (carries l.frame s.machine)) g).1 in
    let y : t ≡ returned l.frame s.machine = x ∙ cond-true (ltb 0 (carries l.frame s.machine)) (returned l.frame s.machine) s.machine c in
    rw y d
