-- Borrowing a key and returning a loan, on the list machine.
--   Outcome, was_hit            how a borrow found its page
--   Report, Answer             what a borrow answers
--   refusal                    the number with which a borrow is refused, if it is
--   hit, recalled, enter, grown   what a borrow does to the state beside the moves of the hands
--   Room                       the frame for a fault
--   Borrow                     a borrow: the state before, the answer, the state after
--   occupant, carries          the entry whose page lies in a frame, and the loans that the frame carries
--   give_back                   a return
--   mark_page                   an altered mark set or cleared
use Rattle.std.specs.Prelude.{◌≡◌, ℕ, ◌+◌, ◌-◌, Bool, true, false, cond, not, List, [], ◌∷◌, ◌++◌, Some, None, Option, nat_lt}
use Rattle.machine.specs.Entry.{Entry, named, lies_in, resident, idle, count, first, replaced, without}
use Rattle.machine.specs.Hands.{Machine, HotRun, ColdRun, Steps, steps, plus, raised}

pub data Outcome : Type 0 where
  a_hit : Outcome  -- the key was resident
  a_test_fault : Outcome  -- the key was remembered
  a_cold_fault : Outcome  -- the key was outside the list

abbrev pub was_hit : Outcome → Bool
was_hit a_hit = true
was_hit a_test_fault = false
was_hit a_cold_fault = false

pub record Report : Type 0 where
  pub outcome : Outcome
  pub victim : Option (List ℕ)  -- the victim's key, if there is one
  pub made : Steps  -- the cold, hot and test steps of this call
  pub cold : ℕ  -- c after it

-- A borrow is granted, with the frame that the loan carries, or refused with a number.
pub data Answer : Type 0 where
  granted : ℕ → Report → Answer
  refused : ℕ → Answer

-- The questions of a borrow; the first no refuses it with its number.
-- 11, asked where the key is not resident: is a frame unused, or some resident page without a loan?
abbrev pub full : ℕ → Machine → Option ℕ
full m s = cond (nat_lt s.used m) None (cond (nat_lt 0 (count idle s.ring)) None (Some 11))

-- 10, asked where the key is resident: has its page fewer than 255 loans?
abbrev pub refusal_at : ℕ → Machine → Option Entry → Option ℕ
refusal_at m s None = full m s
refusal_at m s (Some e) = cond (resident e) (cond (nat_lt e.loans 255) None (Some 10)) (full m s)

-- The number with which a borrow of key k in state s is refused, if it is.
abbrev pub refusal : ℕ → List ℕ → Machine → Option ℕ
refusal m k s = refusal_at m s (first (named k) s.ring)

-- B1, a hit: the bit is set, and there is one loan more.
abbrev pub lent : Entry → Entry
lent e = record { key = e.key; hot = e.hot; frame = e.frame; test = e.test; bit = true; loans = e.loans + 1; altered = e.altered }

abbrev pub hit : List ℕ → Machine → Machine
hit k s = record { ring = replaced (named k) (λ e. lent e ∷ []) s.ring; cold = s.cold; used = s.used }

-- B2, a test fault takes the remembered entry out and raises c, before any hand moves.
abbrev pub recalled : ℕ → List ℕ → Machine → Machine
recalled m k s = record { ring = without (named k) s.ring; cold = raised m s.cold; used = s.used }

-- B5, the new entry of a page that was read into frame f: unaltered, its bit clear, with one loan. After a test fault it is
-- hot (h is true), after a cold fault it is cold with the test mark. It stands at the head.
abbrev pub entered : List ℕ → Bool → ℕ → Entry
entered k h f = record { key = k; hot = h; frame = Some f; test = not h; bit = false; loans = 1; altered = false }

abbrev pub enter : List ℕ → Bool → ℕ → Machine → Machine
enter k h f s = record { ring = s.ring ++ (entered k h f ∷ []); cold = s.cold; used = s.used }

-- u grows by 1.
abbrev pub grown : Machine → Machine
grown s = record { ring = s.ring; cold = s.cold; used = s.used + 1 }

-- B4, the frame for a fault in state s: frame u, and u grows by 1, where u < m; otherwise the one that a cold run frees.
-- With it come the victim, if there is one, the steps, and the state that the page enters.
pub data Room (m : ℕ) : Machine → ℕ → Option Entry → Steps → Machine → Type 0 where
  unused : {s : Machine} → nat_lt s.used m ≡ true → Room m s s.used None (steps 0 0 0) (grown s)
  freed : {s t : Machine} {n : Steps} {v : Entry} {f : ℕ} →
      nat_lt s.used m ≡ false → ColdRun m s n v t → v.frame ≡ Some f →
      Room m s f (Some v) n t

-- The victim's key, for the report.
abbrev pub key_of : Option Entry → Option (List ℕ)
key_of None = None
key_of (Some v) = Some v.key

-- Borrowing key k in state s: the answer, and the state after.
pub data Borrow (m : ℕ) (k : List ℕ) : Machine → Answer → Machine → Type 0 where
  -- a refusal alters nothing
  refuses : {s : Machine} {n : ℕ} → refusal m k s ≡ Some n → Borrow m k s (refused n) s
  -- the key is resident
  hits : {s : Machine} {e : Entry} {f : ℕ} →
      refusal m k s ≡ None → first (named k) s.ring ≡ Some e → e.frame ≡ Some f →
      Borrow m k s (granted f (record { outcome = a_hit; victim = None; made = steps 0 0 0; cold = s.cold })) (hit k s)
  -- the key is remembered: its entry is taken out, a frame is found, the page enters hot, and a hot run follows
  test_faults : {s r t : Machine} {e : Entry} {f h : ℕ} {v : Option Entry} {n : Steps} →
      refusal m k s ≡ None → first (named k) s.ring ≡ Some e → e.frame ≡ None →
      Room m (recalled m k s) f v n r →
      HotRun m (enter k true f r) h t →
      Borrow m k s (granted f (record { outcome = a_test_fault; victim = key_of v; made = plus n (steps 0 h 0); cold = t.cold })) t
  -- B3, the key is outside the list: a frame is found, and the page enters cold with the test mark
  cold_faults : {s r : Machine} {f : ℕ} {v : Option Entry} {n : Steps} →
      refusal m k s ≡ None → first (named k) s.ring ≡ None →
      Room m s f v n r →
      Borrow m k s (granted f (record { outcome = a_cold_fault; victim = key_of v; made = n; cold = r.cold })) (enter k false f r)

-- The entry whose page lies in frame f, if there is one. A frame carries the loans of that entry, or 0.
abbrev pub occupant : ℕ → Machine → Option Entry
occupant f s = first (lies_in f) s.ring

abbrev pub loans_at : Option Entry → ℕ
loans_at None = 0
loans_at (Some e) = e.loans

abbrev pub altered_at : Option Entry → Bool
altered_at None = false
altered_at (Some e) = e.altered

abbrev pub carries : ℕ → Machine → ℕ
carries f s = loans_at (occupant f s)

-- A return takes one loan off the frame.
abbrev pub repaid : Entry → Entry
repaid e = record { key = e.key; hot = e.hot; frame = e.frame; test = e.test; bit = e.bit; loans = e.loans - 1; altered = e.altered }

abbrev pub returned : ℕ → Machine → Machine
returned f s = record { ring = replaced (lies_in f) (λ e. repaid e ∷ []) s.ring; cold = s.cold; used = s.used }

-- If the frame carries no loan, the return is refused and nothing changes.
abbrev pub give_back : ℕ → Machine → Machine
give_back f s = cond (nat_lt 0 (carries f s)) (returned f s) s

-- An alteration sets the altered mark of the page in frame f, and a flush clears it. The bytes are no part of the machine.
abbrev pub marking : Bool → Entry → Entry
marking b e = record { key = e.key; hot = e.hot; frame = e.frame; test = e.test; bit = e.bit; loans = e.loans; altered = b }

abbrev pub mark_page : ℕ → Bool → Machine → Machine
mark_page f b s = record { ring = replaced (lies_in f) (λ e. marking b e ∷ []) s.ring; cold = s.cold; used = s.used }
