-- What two parts of a command are to each other (spec_language, specs/LabelTests), as the code says it.
use Rattle.std.specs.Prelude.{Bool, true, false}
use Rattle.spec_language.specs.LabelTests.{Joint, alternative, parallel}

abbrev pub joint_of : (parallel : Bool) → Joint
joint_of true = parallel
joint_of false = alternative
