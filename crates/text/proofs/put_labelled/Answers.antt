-- `text::put_labelled` meets its contract: the number stands just after the word. Assumes nothing.
use Rattle.text.specs.PutLaws.{put_then}
use Rattle.text.proofs.put_labelled.Goals as goal

pub returns : goal.returns
returns g c = put_then c.put_word-next.ensures c.put.ensures
