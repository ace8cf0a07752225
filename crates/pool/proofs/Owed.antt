-- What the calls owe, from what they are served with.
use Rattle.std.proofs.lemmas.Result.{err_from_is_err_and}
use Rattle.std.specs.Result.{IsErrAnd}
use Rattle.std.proofs.Common.{◌≡◌, ℕ, ◌*◌, List, Some, None, Ok, Err, Result, sym, refl, ap, ◌∙◌, subst, ap₂, arith}
use Rattle.std.proofs.lemmas.Bool.Decides.{nat_tests}
use Rattle.chains.specs.declared.cell.Cell.{Cell}
use Rattle.records.specs.declared.entry.Entry.{Entry}
use Rattle.rows.specs.Rows.{Stands}
use Rattle.machine.specs.Borrow.{carries}
use Rattle.machine.proofs.Counts.{none_some}
use Rattle.promise.specs.State.{State, page_size}
use Rattle.promise.specs.Serves as serves
use Rattle.promise.specs.Serves.{Request, to_borrow, to_alter, to_return, to_flush, Answer, lends, done, denied, by_pool, good, asked, refuses, returns, Serves}
use Rattle.promise.specs.Uses.{Served}
use Rattle.promise.proofs.Uses.{owed, carrying, serves_lasts}
use Rattle.pool.specs.declared.state.Loan.{Loan}
use Rattle.records.specs.declared.answers.Report.{Report}
use Rattle.pool.specs.declared.faults.PoolFault.{PoolFault}
use Rattle.pool.specs.Faults.{number, layer_of, denial}
use Rattle.pool.specs.Asked.{Holding, holding, state, sizes_of, Ready, Supposed, Asked}
use Rattle.pool.specs.Loans.{lent_at, returned_at}
use Rattle.pool.specs.Reading.{state_of, call_of, loan_in, lent_by, altered_by, returned_by, carried}

-- A CALL THAT FITS

pub asked_fit : {K : Type 0} (meaning : K → List ℕ) (q : Request) (h : Holding K) (a : Answer) (after : Holding K) → sizes_of h ≡ None → Supposed meaning h →
    Stands after.cells after.pool.ring.table → Serves (call_of q h.frames h.cells) (state meaning h) a (state meaning after) →
    after.pool.number ≡ h.pool.number → after.pool.frames ≡ h.pool.frames → Asked meaning q h a after
asked_fit meaning q h a after e r st d i j =
    let s = state meaning h in
    let v = owed.served (call_of q h.frames h.cells) s (state meaning after) a (r e).led d in
    record {
      fits = λ _. record { ready = record { stands = st; led = v.led }; served = v };
      misfits = λ n k. none_some (sizes_of h) n e k;
      same_number = i;
      same_count = j;
      same_size = (serves_lasts (call_of q h.frames h.cells) d (owed.facts s (r e).led)).size;
    }

-- the same service, by an equal answer
pub served_as : {K : Type 0} (meaning : K → List ℕ) (q : Request) (h : Holding K) (t : State) {a b : Answer} → a ≡ b → Serves (call_of q h.frames h.cells) (state meaning h) b t →
    Serves (call_of q h.frames h.cells) (state meaning h) a t
served_as meaning q h t e d = subst (λ x. Serves (call_of q h.frames h.cells) (state meaning h) x t) (sym e) d

-- its own questions had a no, so that nothing changed
pub asked_denied : {K : Type 0} (meaning : K → List ℕ) (q : Request) (h : Holding K) (a : Answer) → sizes_of h ≡ None → Supposed meaning h →
    Serves (call_of q h.frames h.cells) (state meaning h) a (state meaning h) → Asked meaning q h a h
asked_denied meaning q h a e r d = asked_fit meaning q h a h e r (r e).stands d refl refl

-- A CALL THAT DOES NOT

misfit_serves : {K : Type 0} (q : Request) (h : Holding K) (n : ℕ) (s : State) → sizes_of h ≡ Some n → s.count ≡ h.pool.frames → page_size s ≡ h.store.size →
    Serves (call_of q h.frames h.cells) s (denied by_pool n) s
misfit_serves q h n s e i j =
    let a : s.count * page_size s ≡ h.pool.frames * h.store.size = ap₂ (λ x y. x * y) i j in
    refuses (grind (arith, nat_tests))

asked_turned : {K : Type 0} (meaning : K → List ℕ) (q : Request) (h : Holding K) (n : ℕ) (a : Answer) → sizes_of h ≡ Some n → a ≡ denied by_pool n → Asked meaning q h a h
asked_turned {K} meaning q h n a e i = record {
  fits = λ k. none_some (sizes_of h) n k e;
  misfits = λ m k. let z : n ≡ m = cc in record { refused = i ∙ ap (denied by_pool) z; same = refl; history = λ frames cells r. turned frames cells r };
  same_number = refl;
  same_count = refl;
  same_size = refl;
}
  where
    turned : (frames : List ℕ) (cells : List (Cell (Entry K))) → Ready meaning (holding h.pool frames cells h.store) →
        Served (call_of q h.frames h.cells) (state_of meaning h.pool frames cells h.store) a (state_of meaning h.pool frames cells h.store)
    turned frames cells r =
        let s = state_of meaning h.pool frames cells h.store in
        owed.served (call_of q h.frames h.cells) s s a r.led (subst (λ x. Serves (call_of q h.frames h.cells) s x s) (sym i) (misfit_serves q h n s e refl refl))

pub asked_misfit : {K : Type 0} (meaning : K → List ℕ) (q : Request) (h : Holding K) (f : PoolFault) (a : Answer) → a ≡ denial f → Some (number f) ≡ sizes_of h → layer_of f ≡ by_pool → Asked meaning q h a h
asked_misfit meaning q h f a i e l = asked_turned meaning q h (number f) a (sym e) (i ∙ ap (λ y. denied y (number f)) l)

-- the same, where the fault came by `?`
pub asked_misfit_by : {K T : Type 0} (meaning : K → List ℕ) (q : Request) (h : Holding K) (read : Result T PoolFault → Answer) (f : PoolFault) (r : Result T PoolFault) → ((x : PoolFault) → read (Err x) ≡ denial x) →
    IsErrAnd r (λ x. x ≡ f) → Some (number f) ≡ sizes_of h → layer_of f ≡ by_pool → Asked meaning q h (read r) h
asked_misfit_by meaning q h read f r d i = let p = err_from_is_err_and r i in asked_misfit meaning q h f (read r) (ap read p.1 ∙ d p.0 ∙ ap denial p.2)

-- THE LOANS

served_in : {K : Type 0} (meaning : K → List ℕ) (q : Request) (h : Holding K) (a : Answer) (after : Holding K) → sizes_of h ≡ None → Asked meaning q h a after →
    Serves (call_of q h.frames h.cells) (state meaning h) a (state meaning after)
served_in meaning q h a after e x = (x.fits e).served.serves

-- a refused call changes no loan
loans_kept : {K : Type 0} (meaning : K → List ℕ) (q : Request) (h : Holding K) (y : PoolFault) (after : Holding K) → sizes_of h ≡ None → Asked meaning q h (denial y) after →
    (f : ℕ) → carried meaning after.pool after.cells f ≡ carried meaning h.pool h.cells f
loans_kept meaning q h y after e x f = ap (λ s. carries f s.machine) (carrying.denying (call_of q h.frames h.cells) (state meaning h) (state meaning after) _ _ (served_in meaning q h (denial y) after e x))

pub loans_lent : {K : Type 0} (meaning : K → List ℕ) (k : List ℕ) (h after : Holding K) (r : Result (Loan × Report K) PoolFault) → sizes_of h ≡ None → Supposed meaning h →
    Asked meaning (to_borrow k) h (lent_by meaning r) after → (f : ℕ) → carried meaning after.pool after.cells f ≡ lent_at r f (carried meaning h.pool h.cells f)
loans_lent meaning k h after (Ok p) e v x f =
    let q = to_borrow k in
    carrying.lent (call_of q h.frames h.cells) (state meaning h) (state meaning after) k _ _ (owed.facts (state meaning h) (v e).led) refl (served_in meaning q h (lent_by meaning (Ok p)) after e x) f
loans_lent meaning k h after (Err y) e v x f = loans_kept meaning (to_borrow k) h y after e x f

pub loans_returned : {K : Type 0} (meaning : K → List ℕ) (l : Loan) (h after : Holding K) (r : Result (Unit {0}) (PoolFault × Loan)) → sizes_of h ≡ None → Supposed meaning h →
    Asked meaning (to_return (loan_in l)) h (returned_by r) after → (f : ℕ) → carried meaning after.pool after.cells f ≡ returned_at l r f (carried meaning h.pool h.cells f)
loans_returned meaning l h after (Ok p) e v x f =
    let q = to_return (loan_in l) in
    carrying.returned (call_of q h.frames h.cells) (state meaning h) (state meaning after) (loan_in l) (owed.facts (state meaning h) (v e).led) refl (served_in meaning q h (returned_by (Ok p)) after e x) f
loans_returned meaning l h after (Err p) e v x f = loans_kept meaning (to_return (loan_in l)) h p.0 after e x f

pub loans_altered : {K : Type 0} (meaning : K → List ℕ) (l : serves.Loan) (offset : ℕ) (new : List ℕ) (h after : Holding K) (r : Result (Unit {0}) PoolFault) → sizes_of h ≡ None → Supposed meaning h →
    Asked meaning (to_alter l offset new) h (altered_by r) after → (f : ℕ) → carried meaning after.pool after.cells f ≡ carried meaning h.pool h.cells f
loans_altered meaning l offset new h after (Ok p) e v x f =
    let q = to_alter l offset new in
    carrying.altered (call_of q h.frames h.cells) (state meaning h) (state meaning after) l offset new (owed.facts (state meaning h) (v e).led) refl (served_in meaning q h (altered_by (Ok p)) after e x) f
loans_altered meaning l offset new h after (Err y) e v x f = loans_kept meaning (to_alter l offset new) h y after e x f

pub loans_flushed : {K : Type 0} (meaning : K → List ℕ) (h after : Holding K) (a : Answer) → sizes_of h ≡ None → Supposed meaning h →
    Asked meaning to_flush h a after → (f : ℕ) → carried meaning after.pool after.cells f ≡ carried meaning h.pool h.cells f
loans_flushed meaning h after a e v x f =
    carrying.flushed (call_of to_flush h.frames h.cells) (state meaning h) (state meaning after) a (owed.facts (state meaning h) (v e).led) refl (served_in meaning to_flush h a after e x) f
