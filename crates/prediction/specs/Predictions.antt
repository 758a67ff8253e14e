-- What is predicted of a carrier, and what time makes of it.
use Rattle.std.specs.Prelude.{ℕ, ◌+◌, Bool, true, false, not, cond, ◌&&◌, eqb, leb}
use Rattle.prediction.specs.declared.prediction.Prediction.{Prediction}
use Rattle.prediction.specs.declared.prediction.Times.{Times}
use Rattle.prediction.specs.declared.prediction.Facts.{Facts}
use Rattle.prediction.specs.Model.{waiting_for_carrier}

-- ── A prediction ──
-- none: what a tool with a buffer keeps
abbrev pub no_prediction : Prediction
no_prediction = record { state = 0; known = 0; estimated = 0; tp = 0; te = 0 }

-- a new record waits for its carrier
abbrev pub new_prediction : Prediction
new_prediction = record { state = waiting_for_carrier; known = 0; estimated = 0; tp = 0; te = 0 }

abbrev pub in_state : ℕ → Prediction → Prediction
in_state s p = record { state = s; known = p.known; estimated = p.estimated; tp = p.tp; te = p.te }

abbrev pub with_tp : ℕ → Prediction → Prediction
with_tp t p = record { state = p.state; known = 1; estimated = p.estimated; tp = t; te = p.te }

abbrev pub with_te : ℕ → Prediction → Prediction
with_te t p = record { state = p.state; known = p.known; estimated = 1; tp = p.tp; te = t }

abbrev pub has_tp : Prediction → Bool
has_tp p = eqb p.known 1

abbrev pub has_te : Prediction → Bool
has_te p = eqb p.estimated 1

-- ── Time ──
-- Tp minus now is at most the setting time
unfoldable pub is_soon : Times → Prediction → Bool
is_soon t p = leb p.tp (t.now + t.setting)

-- Te: the estimate that was given, or else the current time (once Tp has passed: before, it is no Tp plus timeout)
abbrev pub estimate : Times → Prediction → ℕ
estimate t p = cond (has_te p) p.te t.now

-- the timeout isn't 0, and Te is at least Tp plus timeout
unfoldable pub is_late : Times → Prediction → Bool
is_late t p = not (eqb t.timeout 0) && leb (p.tp + t.timeout) (estimate t p)

-- ── What a carrier's transitions ask, by what an input does ──
-- nothing but whether it is ready
abbrev pub as_it_is : Bool → Facts
as_it_is ready = record { taken = false; unset = false; soon = false; late = false; impossible = false; ready = ready }

-- it comes into access
abbrev pub on_access : Times → Bool → Facts
on_access t ready = record { taken = true; unset = eqb t.setting 0; soon = false; late = false; impossible = false; ready = ready }

-- it is cancelled while it waits for its carrier, and then Tp is now; in any other state only ready counts
abbrev pub on_cancel : Times → Prediction → Bool → Facts
on_cancel t p ready = record {
  taken = true;
  unset = eqb t.setting 0;
  soon = eqb p.state waiting_for_carrier;
  late = false;
  impossible = false;
  ready = ready;
}

-- it is judged, if it has a Tp
abbrev pub on_judging : Times → Prediction → Bool → Facts
on_judging t p ready = record {
  taken = false;
  unset = false;
  soon = has_tp p && is_soon t p;
  late = has_tp p && is_late t p;
  impossible = false;
  ready = ready;
}

-- no prediction is possible
abbrev pub on_none : Bool → Facts
on_none ready = record { taken = false; unset = false; soon = false; late = false; impossible = true; ready = ready }
