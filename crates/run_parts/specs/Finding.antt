-- What a run finds before it is written down.
use Rattle.run_parts.specs.Runs.{Readings}

module _ {In Texts Value : Type 0} (Reads : Readings In Texts) (Due : Texts → Value → Type 0) where
  -- the run has read its inputs, and this value is due for them
  pub record Finds (input : In) (value : Value) (input_now : In) : Type 0 where
    pub texts : Texts
    pub read : Reads input texts input_now
    pub due : Due texts value
