use Rattle.bj_machine.proofs.Allowing.{allows}
use Rattle.bj_machine.proofs.laws.answers_are_allowed.Goals as goal

pub returns : goal.returns
returns c p s t a x fields kept n e = allows p s t a x (record {
  points = λ at. c.initializations_are_answered.ensures.points p s t 1 at x;
  got = λ object slot. c.fields_are_of_objects.ensures.got p s t 1 object slot x;
  put = λ object slot value. c.fields_are_of_objects.ensures.put p s t 1 object slot value x;
  made = λ class. c.made_objects_are_of_their_class.ensures.made p s t 1 class x;
  begins = λ class. c.initializations_are_answered.ensures.begins p s t 1 class x;
  ends = λ class ok. c.initializations_are_answered.ensures.ends p s t 1 class ok x;
  raised = λ class message. c.made_objects_are_of_their_class.ensures.raised p s t 1 class message x;
}) fields kept n e
