-- The machine's state after a change of the rows.
use Rattle.std.proofs.Common.{◌≡◌, ℕ, ◌≤◌, Bool, true, false, ltb, List, [], ◌∷◌, ◌++◌, is_some, Some, None, Option, sym, refl, ap, ◌∙◌, ap₂}
use Rattle.keys.specs.declared.FrameNo.{FrameNo}
use Rattle.std.specs.List.{ContainsAt}
use Rattle.std.proofs.lemmas.List.{map-append}
use Rattle.chains.specs.declared.cell.Cell.{Cell}
use Rattle.records.specs.Questions.{remembered, idle}
use Rattle.rows.specs.Rows.{rows_in, without_cell, replaced, first_row, first_by, number, Stands}
use Rattle.records.specs.declared.entry.Entry.{Entry}
use Rattle.rows.specs.declared.Row.{Row}
use Rattle.rows.proofs.Stand.{tail_parts, cells_apart}
use Rattle.rows.proofs.Walks.{nearest, nearest_has}
use Rattle.machine.specs.Entry as model
use Rattle.machine.specs.Hands.{Machine, turned, turned_by, turned_cold, turned_cold_by, cleared, cooled, unmarked, lowered, hot_ring, hot_cold, hot_step}
use Rattle.machine.proofs.Counts.{none_some}
use Rattle.machine.proofs.Calls.{Fair}
use Rattle.records.specs.Reading.{entry_of, frame_of}
use Rattle.ring.specs.Model.{entries_in, machine_of}
use Rattle.ring.specs.declared.Ring.{Ring}
use Rattle.ring.proofs.Lists.{count_in, none_in, first_in, cut_in, put_in, turn_in, remembered_is, idle_is}

-- what the hot step makes of an entry, by case
pub turned_set : (e : model.Entry) → e.hot ≡ true → e.bit ≡ true → turned e ≡ cleared e ∷ []
turned_set e h b = ap₂ (λ x y. turned_by e x y (model.resident e)) h b

pub turned_clear : (e : model.Entry) → e.hot ≡ true → e.bit ≡ false → turned e ≡ cooled e ∷ []
turned_clear e h b = ap₂ (λ x y. turned_by e x y (model.resident e)) h b

turned_cold_is : (e : model.Entry) (b r : Bool) → e.hot ≡ false → e.bit ≡ b → model.resident e ≡ r → turned e ≡ turned_by e false b r
turned_cold_is e b r h i j = ap₂ (λ x y. turned_by e x e.bit y) h j ∙ ap (λ x. turned_by e false x r) i

cold_here : (e : model.Entry) (b : Bool) → turned_by e false b true ≡ unmarked e ∷ []
cold_here e true = refl
cold_here e false = refl

cold_gone : (e : model.Entry) (b : Bool) → turned_by e false b false ≡ []
cold_gone e true = refl
cold_gone e false = refl

pub turned_here : (e : model.Entry) → e.hot ≡ false → model.resident e ≡ true → turned e ≡ unmarked e ∷ []
turned_here e h r = turned_cold_is e e.bit true h refl r ∙ cold_here e e.bit

pub turned-gone : (e : model.Entry) → e.hot ≡ false → model.resident e ≡ false → turned e ≡ []
turned-gone e h r = turned_cold_is e e.bit false h refl r ∙ cold_gone e e.bit

turned_cold_at : (e : model.Entry) (c : ℕ) (h r t : Bool) → e.hot ≡ h → model.resident e ≡ r → e.test ≡ t → turned_cold e c ≡ turned_cold_by c h r t
turned_cold_at e c h r t i j k = ap₂ (λ x y. turned_cold_by c x y e.test) i j ∙ ap (turned_cold_by c h r) k

hot_same : (c : ℕ) (r t : Bool) → turned_cold_by c true r t ≡ c
hot_same c true true = refl
hot_same c true false = refl
hot_same c false true = refl
hot_same c false false = refl

gone_less : (c : ℕ) (t : Bool) → turned_cold_by c false false t ≡ lowered c
gone_less c true = refl
gone_less c false = refl

pub cold_hot : (e : model.Entry) (c : ℕ) → e.hot ≡ true → turned_cold e c ≡ c
cold_hot e c h = turned_cold_at e c true (model.resident e) e.test h refl refl ∙ hot_same c (model.resident e) e.test

pub cold_marked : (e : model.Entry) (c : ℕ) → e.hot ≡ false → model.resident e ≡ true → e.test ≡ true → turned_cold e c ≡ lowered c
cold_marked e c h r t = turned_cold_at e c false true true h r t

pub cold_unmarked : (e : model.Entry) (c : ℕ) → e.hot ≡ false → model.resident e ≡ true → e.test ≡ false → turned_cold e c ≡ c
cold_unmarked e c h r t = turned_cold_at e c false true false h r t

pub cold_past : (e : model.Entry) (c : ℕ) → e.hot ≡ false → model.resident e ≡ false → turned_cold e c ≡ lowered c
cold_past e c h r = turned_cold_at e c false false e.test h r refl ∙ gone_less c e.test

pub unmarked-same : (e : model.Entry) → e.test ≡ false → unmarked e ≡ e
unmarked-same e t = λ i. record { key = e.key; hot = e.hot; frame = e.frame; test = sym t i; bit = e.bit; loans = e.loans; altered = e.altered }

-- a frame is there or not
pub here : (o : Option FrameNo) (f : FrameNo) → o ≡ Some f → is_some (frame_of o) ≡ true
here o f e = ap (λ x. is_some (frame_of x)) e

pub gone : (o : Option FrameNo) → o ≡ None → is_some (frame_of o) ≡ false
gone o e = ap (λ x. is_some (frame_of x)) e

module _ {K : Type 0} (m : K → List ℕ) (cells : List (Cell (Entry K))) (ring : Ring) where
  -- the parts of the state
  pub ring_is : (machine_of m cells ring).ring ≡ entries_in m (rows_in cells ring.table)
  unfolding machine_of
  ring_is = refl

  pub cold_is : (machine_of m cells ring).cold ≡ ring.cold
  unfolding machine_of
  cold_is = refl

  pub used_is : (machine_of m cells ring).used ≡ ring.used
  unfolding machine_of
  used_is = refl

  pub hots_are : (n : ℕ) → n ≡ number (λ e. e.hot) (rows_in cells ring.table) → n ≡ model.count model.is_hot (machine_of m cells ring).ring
  unfolding machine_of
  hots_are n e = e ∙ sym (count_in m model.is_hot (λ e. e.hot) (λ e. refl) (rows_in cells ring.table))

  pub remembereds_are : (n : ℕ) → n ≡ number remembered (rows_in cells ring.table) → n ≡ model.count model.remembered (machine_of m cells ring).ring
  unfolding machine_of
  remembereds_are n e = e ∙ sym (count_in m model.remembered remembered (remembered_is m) (rows_in cells ring.table))

  pub idles_are : (n : ℕ) → n ≡ number idle (rows_in cells ring.table) → n ≡ model.count model.idle (machine_of m cells ring).ring
  unfolding machine_of
  idles_are n e = e ∙ sym (count_in m model.idle idle (idle_is m) (rows_in cells ring.table))

  pub none_found : (p : model.Entry → Bool) (q : Entry K → Bool) → ((e : Entry K) → p (entry_of m e) ≡ q e) → first_by q (rows_in cells ring.table) ≡ None
      → model.first p (machine_of m cells ring).ring ≡ None
  unfolding machine_of
  none_found p q agree e = none_in m p q agree (rows_in cells ring.table) e

  module _ (st : Stands cells ring.table) where
    -- the row at the tail
    pub tail_has : (r : Row K) → first_row (rows_in cells ring.table) ≡ Some r → ContainsAt (rows_in cells ring.table) r
    tail_has r e = (tail_parts cells ring.table st r e).3

    pub tail_none : first_row (rows_in cells ring.table) ≡ None → machine_of m cells ring ≡ hot_step (machine_of m cells ring)
    unfolding machine_of
    tail_none e = go (rows_in cells ring.table) e
      where
        go : (rows : List (Row K)) → first_row rows ≡ None → ◌≡◌ {A = Machine} (record { ring = entries_in m rows; cold = ring.cold; used = ring.used }) (hot_step (record { ring = entries_in m rows; cold = ring.cold; used = ring.used }))
        go [] h = refl
        go (r ∷ rs) h = none_some (first_row (r ∷ rs)) r h refl

    module _ (cells' : List (Cell (Entry K))) (ring' : Ring) (used : ring'.used ≡ ring.used) (r : Row K) (e : first_row (rows_in cells ring.table) ≡ Some r)
        (cold : ring'.cold ≡ turned_cold (entry_of m r.entry) ring.cold) where
      tail_cold : ring'.cold ≡ hot_cold (entries_in m (rows_in cells ring.table)) ring.cold
      tail_cold = cold ∙ ap (λ l. hot_cold (entries_in m l) ring.cold) (sym (tail_parts cells ring.table st r e).1)

      -- it went to the head
      pub tail_turned : (new : Entry K) → rows_in cells' ring'.table ≡ without_cell r.cell.0 (rows_in cells ring.table) ++ record { cell = r.cell; entry = new } ∷ []
          → turned (entry_of m r.entry) ≡ entry_of m new ∷ [] → machine_of m cells' ring' ≡ hot_step (machine_of m cells ring)
      unfolding machine_of
      tail_turned new rows law =
          let t = tail_parts cells ring.table st r e in
          let a : entries_in m (rows_in cells' ring'.table) ≡ hot_ring (entries_in m (rows_in cells ring.table)) =
          ap (entries_in m) (rows ∙ ap (λ l. l ++ record { cell = r.cell; entry = new } ∷ []) t.2)
          ∙ map-append (λ x. entry_of m x.entry) t.0 (record { cell = r.cell; entry = new } ∷ [])
          ∙ ap (λ l. entries_in m t.0 ++ l) (sym law)
          ∙ ap (λ l. hot_ring (entries_in m l)) (sym t.1) in
          λ i. record { ring = a i; cold = tail_cold i; used = used i }

      -- it was removed
      pub tail_cut : rows_in cells' ring'.table ≡ without_cell r.cell.0 (rows_in cells ring.table)
          → turned (entry_of m r.entry) ≡ [] → machine_of m cells' ring' ≡ hot_step (machine_of m cells ring)
      unfolding machine_of
      tail_cut rows law =
          let t = tail_parts cells ring.table st r e in
          let z : entries_in m t.0 ++ [] ≡ entries_in m t.0 = append_none (entries_in m t.0) in
          let a : entries_in m (rows_in cells' ring'.table) ≡ hot_ring (entries_in m (rows_in cells ring.table)) =
          ap (entries_in m) (rows ∙ t.2) ∙ sym z ∙ ap (λ l. entries_in m t.0 ++ l) (sym law) ∙ ap (λ l. hot_ring (entries_in m l)) (sym t.1) in
          λ i. record { ring = a i; cold = tail_cold i; used = used i }
        where
          append_none : (l : List model.Entry) → l ++ [] ≡ l
          append_none [] = refl
          append_none (x ∷ xs) = ap (λ l. x ∷ l) (append_none xs)

    -- the first row that passes a question
    module _ (p : model.Entry → Bool) (q : Entry K → Bool) (agree : (e : Entry K) → p (entry_of m e) ≡ q e) (r : Row K) (e : first_by q (rows_in cells ring.table) ≡ Some r) where
      pub found_has : ContainsAt (rows_in cells ring.table) r
      found_has = nearest_has (rows_in cells ring.table) q r (nearest q r (rows_in cells ring.table) e) (cells_apart cells ring.table st)

      pub found_passes : q r.entry ≡ true
      found_passes = (nearest q r (rows_in cells ring.table) e).passes

      pub found_first : model.first p (machine_of m cells ring).ring ≡ Some (entry_of m r.entry)
      unfolding machine_of
      found_first = first_in m p q agree r (rows_in cells ring.table) (cells_apart cells ring.table st) e

      module _ (cells' : List (Cell (Entry K))) (ring' : Ring) where
        -- it was removed
        pub found_cut : (f : model.Entry → List model.Entry) → f (entry_of m r.entry) ≡ [] → rows_in cells' ring'.table ≡ without_cell r.cell.0 (rows_in cells ring.table)
            → (machine_of m cells' ring').ring ≡ model.replaced p f (machine_of m cells ring).ring
        unfolding machine_of
        found_cut f h rows = ap (entries_in m) rows ∙ cut_in m p q agree r (rows_in cells ring.table) (cells_apart cells ring.table st) e f h

        -- it took a new entry where it stands
        pub found_put : (f : model.Entry → List model.Entry) (new : Entry K) → f (entry_of m r.entry) ≡ entry_of m new ∷ []
            → rows_in cells' ring'.table ≡ replaced r.cell.0 new (rows_in cells ring.table)
            → (machine_of m cells' ring').ring ≡ model.replaced p f (machine_of m cells ring).ring
        unfolding machine_of
        found_put f new h rows = ap (entries_in m) rows ∙ put_in m p q agree r (rows_in cells ring.table) (cells_apart cells ring.table st) e f new h

        -- it took a new entry and went to the head
        pub found_turned : (new : Entry K) → rows_in cells' ring'.table ≡ without_cell r.cell.0 (rows_in cells ring.table) ++ record { cell = r.cell; entry = new } ∷ []
            → (machine_of m cells' ring').ring ≡ model.without p (machine_of m cells ring).ring ++ (entry_of m new ∷ [])
        unfolding machine_of
        found_turned new rows = ap (entries_in m) rows ∙ turn_in m p q agree r (rows_in cells ring.table) (cells_apart cells ring.table st) e new

-- a state, from its parts
pub state_is : {K : Type 0} (m : K → List ℕ) (cells : List (Cell (Entry K))) (ring : Ring) (t : Machine)
    → (machine_of m cells ring).ring ≡ t.ring → ring.cold ≡ t.cold → ring.used ≡ t.used → machine_of m cells ring ≡ t
unfolding machine_of
state_is m cells ring t a b c = λ i. record { ring = a i; cold = b i; used = c i }

-- the question for a frame, in plain numbers
pub fair : (m : ℕ) {K : Type 0} (w : K → List ℕ) (cells : List (Cell (Entry K))) (ring : Ring) → Fair m (machine_of w cells ring) → ltb ring.used m ≡ false → 1 ≤ model.count model.idle (machine_of w cells ring).ring
unfolding machine_of
fair m w cells ring h = h
