-- What tells boards apart.
use base.Stored.{Coded}
use Rattle.atomic_table.specs.Seated.{TableId, table_id_coded}

-- which board it is: no two boards share it
abbrev pub BoardId : Type 0
BoardId = TableId

-- so that a ghost field may hold it
abbrev pub board_id_coded : Coded BoardId
board_id_coded = table_id_coded
