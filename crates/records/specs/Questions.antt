-- Questions about an entry, whatever its keys are.
--   remembered, cold_resident   that its page has left; that it is resident and cold
--   unlent, idle, evictable     no loan; and resident besides; and cold besides: what the candidate is the first of
--   in_frame, lies_in           that its page lies in this frame
use Rattle.std.specs.Prelude.{ℕ, Bool, false, not, ◌&&◌, is_some, Some, None, Option, ◌==◌}
use Rattle.keys.specs.declared.FrameNo.{FrameNo}
use Rattle.records.specs.declared.entry.Entry.{Entry}

abbrev pub remembered : {K : Type 0} → Entry K → Bool
remembered e = not (is_some e.frame)

abbrev pub cold_resident : {K : Type 0} → Entry K → Bool
cold_resident e = is_some e.frame && not e.hot

abbrev pub unlent : {K : Type 0} → Entry K → Bool
unlent e = e.loans == 0

abbrev pub idle : {K : Type 0} → Entry K → Bool
idle e = is_some e.frame && unlent e

abbrev pub evictable : {K : Type 0} → Entry K → Bool
evictable e = cold_resident e && unlent e

abbrev pub in_frame : ℕ → Option FrameNo → Bool
in_frame f None = false
in_frame f (Some g) = f == g.0

abbrev pub lies_in : {K : Type 0} → ℕ → Entry K → Bool
lies_in f e = in_frame f e.frame
