use Rattle.std.proofs.Common.{length}
use Rattle.octets.specs.Cursor.{rest, Advances}
use Rattle.octets_lists.specs.Settings.{AreSettings}
use Rattle.octets_lists.proofs.settings.read_settings.Given as goal

abbrev pub invariant-settings : goal.invariant-settings
invariant-settings l = AreSettings (rest l.fn.cursor) l.settings.items (rest l.cursor)
    × Advances l.fn.cursor l.cursor

abbrev pub decreases-settings : goal.decreases-settings
decreases-settings l = length (rest l.cursor)
