-- What the evaluator gives is so, and the sample session.
use Rattle.std.proofs.Common.{◌≡◌, ℕ, ◌*◌, Bool, true, false, cond, ltb, List, [], ◌∷◌, map, length, Some, None, Option, sym, refl, ap, ◌∙◌, subst, arith}
use Rattle.std.proofs.lemmas.Bool.{ltb-true}
use Rattle.machine.specs.Hands.{Machine}
use Rattle.machine.specs.Borrow.{granted, refused, Borrow}
use Rattle.machine.specs.Borrow as machine
use Rattle.machine.specs.Evaluate.{Done, eval_borrow, onward}
use Rattle.machine.proofs.Counts.{none_some}
use Rattle.machine.proofs.Evaluate.{eval_borrow-found}
use Rattle.promise.specs.State.{State, Opening, begun}
use Rattle.stores.specs.Parts.{part_of}
use Rattle.promise.specs.Serves.{Request, to_borrow, to_view, to_alter, to_return, to_flush, Call, Answer, questions, Does, borrows, views, alters, returns, flushes, Serves, grants}
use Rattle.promise.specs.Serves as serves
use Rattle.promise.specs.Uses.{Session, ends, next}
use Rattle.promise.specs.Evaluate.{Result, eval_lent, eval_borrowing, eval_does, eval_asked, eval_call, Played, played, eval_session, Evaluates, file_pages, file, sample, Sample}
use Rattle.stores.proofs.Bytes.{part_length}

-- a property of what is given, if something is
abbrev Given : {A : Type 0} → (A → Type 0) → Option A → Type 0
Given P None = Unit {0}
Given P (Some x) = P x

gives : {A : Type 0} (P : A → Type 0) (o : Option A) (x : A) → Given P o → o ≡ Some x → P x
gives P None x g h = none_some None x refl h
gives P (Some y) x g h = let e : y ≡ x = cc in subst P e g

does_so : (fuel : ℕ) (q : Request) (s : State) → Given (λ r. Does q s r.answer r.after) (eval_does fuel q s)
does_so fuel (to_borrow k) s = go (s.store.pages k) refl
  where
    lent : (page : List ℕ) (t : Machine) (a : machine.Answer) → s.store.pages k ≡ Some page → Borrow s.count k s.machine a t →
        Given (λ r. Does (to_borrow k) s r.answer r.after) (eval_lent s page t a)
    lent page t (granted f r) h w = borrows h w
    lent page t (refused n) h w = tt

    at : (page : List ℕ) → s.store.pages k ≡ Some page → (o : Option Done) → eval_borrow s.count fuel k s.machine ≡ o →
        Given (λ r. Does (to_borrow k) s r.answer r.after) (onward (λ d. eval_lent s page d.after d.answer) o)
    at page h None j = tt
    at page h (Some d) j = lent page d.after d.answer h (eval_borrow-found s.count fuel k s.machine d.after d.answer j)

    go : (o : Option (List ℕ)) → s.store.pages k ≡ o → Given (λ r. Does (to_borrow k) s r.answer r.after) (eval_borrowing fuel k s o)
    go None h = tt
    go (Some page) h = at page h (eval_borrow s.count fuel k s.machine) refl
does_so fuel (to_view l) s = views
does_so fuel (to_alter l offset new) s = alters
does_so fuel (to_return l) s = returns
does_so fuel to_flush s = flushes

call_so : (fuel : ℕ) (c : Call) (s : State) → Given (λ r. Serves c s r.answer r.after) (eval_call fuel c s)
call_so fuel c s = go (questions c s) refl
  where
    weaker : questions c s ≡ None → (o : Option Result) → Given (λ r. Does c.request s r.answer r.after) o → Given (λ r. Serves c s r.answer r.after) o
    weaker h None g = tt
    weaker h (Some r) g = grants h g

    go : (o : Option Answer) → questions c s ≡ o → Given (λ r. Serves c s r.answer r.after) (eval_asked fuel c s o)
    go (Some a) h = serves.refuses h
    go None h = weaker h (eval_does fuel c.request s) (does_so fuel c.request s)

session_so : (fuel : ℕ) (calls : List Call) (s : State) → Given (λ p. Session s p.events p.after) (eval_session fuel calls s)
session_so fuel [] s = ends
session_so fuel (c ∷ rest) s = go (eval_call fuel c s) (call_so fuel c s) (λ r. session_so fuel rest r)
  where
    more : (r : Result) → Serves c s r.answer r.after → (o : Option Played) → Given (λ p. Session r.after p.events p.after) o →
        Given (λ p. Session s p.events p.after) (onward (played c r.answer) o)
    more r d None g = tt
    more r d (Some p) g = next d g

    go : (o : Option Result) → Given (λ r. Serves c s r.answer r.after) o → ((t : State) → Given (λ p. Session t p.events p.after) (eval_session fuel rest t)) →
        Given (λ p. Session s p.events p.after) (onward (λ r. onward (played c r.answer) (eval_session fuel rest r.after)) o)
    go None g ih = tt
    go (Some r) g ih = more r g (eval_session fuel rest r.after) (ih r.after)

pub evaluates : Evaluates
evaluates = record {
  call = λ fuel c s t a h. gives (λ r. Serves c s r.answer r.after) (eval_call fuel c s) (record { answer = a; after = t }) (call_so fuel c s) h;
  session = λ fuel calls s t es h. gives (λ p. Session s p.events p.after) (eval_session fuel calls s) (record { events = es; after = t }) (session_so fuel calls s) h;
}

-- THE SAMPLE

file_fits : (p n : ℕ) (bytes : List ℕ) → length bytes ≡ n * p → (k page : List ℕ) → file_pages p n bytes k ≡ Some page → length page ≡ p
file_fits p n bytes h [] page j = none_some None page refl j
file_fits p n bytes h (i ∷ []) page j = go (ltb i n) refl j
  where
    go : (b : Bool) → ltb i n ≡ b → cond b (Some (part_of p bytes i)) None ≡ Some page → length page ≡ p
    go true l q = let e : part_of p bytes i ≡ page = cc in ap length (sym e) ∙ part_length n p i bytes (ltb-true i n l) h
    go false l q = none_some None page refl q
file_fits p n bytes h (i ∷ (x ∷ rest)) page j = none_some None page refl j

abbrev opening : Opening
opening = record {
  number = 7;
  count = 2;
  bytes = 0 ∷ 0 ∷ 0 ∷ 0 ∷ [];
  store = file;
  size_low = omega arith;
  size_high = omega arith;
  count_low = omega arith;
  count_high = omega arith;
  bytes_fit = refl;
  pages_fit = file_fits 2 4 (0 ∷ 1 ∷ 2 ∷ 3 ∷ 4 ∷ 5 ∷ 6 ∷ 7 ∷ []) refl;
}

-- the state that the evaluator gives
abbrev after_of : Option Played → State
after_of None = begun opening
after_of (Some p) = p.after

abbrev final : State
final = after_of (eval_session 50 (map (λ e. e.call) sample) (begun opening))

sample_agrees : eval_session 50 (map (λ e. e.call) sample) (begun opening) ≡ Some (record { events = sample; after = final })
sample_agrees = refl

pub sampled : Sample
sampled = record {
  opening = opening;
  number = refl;
  frames = refl;
  bytes = refl;
  store = refl;
  after = final;
  session = evaluates.session 50 (map (λ e. e.call) sample) (begun opening) final sample sample_agrees;
  stored = refl;
}
