use Rattle.wall_cross.proofs.CarriedClasses.{class_crossing}
use Rattle.wall_cross.proofs.carried.crossings_of_a_class.Goals as goal

pub returns : goal.returns
returns c = λ d a g p q C T D X Y l m edges others field valid valid_T image one there two matching.
    class_crossing d field a g p q C T D X Y l m edges others valid valid_T image one there two matching
