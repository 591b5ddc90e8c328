-- What every step of a search leaves of its queue of labels.
use Rattle.std.specs.Prelude.{◌≡◌}
use Rattle.queue.specs.Queue.{HeapOrder, room}
use Rattle.queue.specs.declared.Queue.{Queue}
use Rattle.walks.specs.Labels.{label_before}
use Rattle.queue_client.specs.declared.label.Label.{Label}

-- its room stays the same, and where its labels lay in heap order they still do
pub record Keeps (old new : Queue Label) : Type 0 where
  pub same_room : room new ≡ room old
  pub heap : HeapOrder label_before old → HeapOrder label_before new
