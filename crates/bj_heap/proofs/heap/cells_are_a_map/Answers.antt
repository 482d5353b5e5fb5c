use Rattle.bj_heap.proofs.Maps.{put_here, put_object, put_slot}
use Rattle.bj_heap.proofs.heap.cells_are_a_map.Goals as goal

pub returns : goal.returns
returns c = record { same = put_here; object = put_object; slot = put_slot }
