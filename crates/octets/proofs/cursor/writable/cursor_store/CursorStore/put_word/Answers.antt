use Rattle.std.proofs.Common.{arith, length-take, length-drop}
use Rattle.octets.proofs.lemmas.Groups.{low_of_word}
use Rattle.octets.proofs.cursor.writable.cursor_store.CursorStore.put_word.Goals as goal

pub returns : goal.returns
returns g c = grind (arith, low_of_word, length-take, length-drop)
