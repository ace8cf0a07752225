-- The questions of opening, and the state that it leaves.
use Rattle.std.proofs.Common.{◌≡◌, ℕ, ◌*◌, ◌≤◌, List, [], length, None, refl, subst, arith}
use Rattle.std.proofs.lemmas.Bool.Decides.{nat_tests}
use Rattle.stores.specs.Meaning.{Meaning, WholePages}
use Rattle.rows.specs.Rows.{Stands}
use Rattle.machine.specs.Hands.{opened}
use Rattle.promise.specs.State.{Opening, begun, open_refusal}
use Rattle.promise.specs.Promise.{opens}
use Rattle.promise.specs.Uses as promise
use Rattle.promise.specs.Uses.{Led}
use Rattle.promise.proofs.Histories.{promised}
use Rattle.promise.proofs.Uses.{owed}
use Rattle.pool.specs.Asked.{Holding, state, Opened}

-- what a yes to all four tells
pub record Yes (p m b c : ℕ) : Type 0 where
  pub size_low : 1 ≤ p
  pub size_high : p ≤ 4096
  pub count_low : 2 ≤ m
  pub count_high : m ≤ 4096
  pub bytes : b ≡ m * p
  pub cells : c ≡ 2 * m

pub yes : (p m b c : ℕ) → open_refusal p m b c ≡ None → Yes p m b c
yes p m b c h = record {
  size_low = grind (arith, nat_tests);
  size_high = grind (arith, nat_tests);
  count_low = grind (arith, nat_tests);
  count_high = grind (arith, nat_tests);
  bytes = grind (arith, nat_tests);
  cells = grind (arith, nat_tests);
}

-- the state that set-up leaves is that of an opening
pub opened_so : {K : Type 0} (meaning : K → List ℕ) (number m : ℕ) (frames : List ℕ) (store : Meaning) (cells : ℕ) (h : Holding K) →
    open_refusal store.size m (length frames) cells ≡ None → WholePages store →
    h.pool.number.0 ≡ number → h.pool.frames ≡ m → h.frames ≡ frames → h.store ≡ store →
    Stands h.cells h.pool.ring.table → (state meaning h).machine ≡ opened m → Opened meaning number m frames store h
opened_so {K} meaning number m frames store cells h q law i j k l st e = record {
  opening = o;
  its_number = refl;
  its_count = refl;
  its_bytes = refl;
  its_store = refl;
  ready = record { stands = st; led = subst Led same (owed.begins o) };
  stands = subst (λ s. promise.Stands o [] s) same (opens, promised.sound o [] (begun o) opens);
}
  where
    y : Yes store.size m (length frames) cells
    y = yes store.size m (length frames) cells q

    o : Opening
    o = record {
      number = number;
      count = m;
      bytes = frames;
      store = store;
      size_low = y.size_low;
      size_high = y.size_high;
      count_low = y.count_low;
      count_high = y.count_high;
      bytes_fit = y.bytes;
      pages_fit = law;
    }

    same : begun o ≡ state meaning h
    same = rw (i, j, k, l, e)
