-- Lists of extents that follow one another.
use Rattle.std.specs.Prelude.{ℕ, ◌+◌, ◌-◌, ◌==◌, if◌then◌else◌, List}
use Rattle.std.specs.List.{range_with_len}
use Rattle.page_source.specs.Pages.{fil_null}
use Rattle.space_header.specs.declared.address.Address.{Address}
use Rattle.space_header.specs.declared.address.Base.{Base}
use Rattle.space_header.specs.declared.address.Node.{Node}
use Rattle.space_header.specs.Header.{extent_address}
use Rattle.space_layout.specs.declared.runs.Run.{Run}

-- the extents of a run
abbrev pub members_of : Run → List ℕ
members_of run = range_with_len run.first run.count

-- no extent
abbrev pub no_run : Run
no_run = record { first = 0; count = 0 }

abbrev pub null_address : Address
null_address = record { page = fil_null; offset = 0 }

-- the base of a list of extents that follow one another
unfoldable pub base_of : Run → Base
base_of run =
    if run.count == 0 then record { length = 0; first = null_address; last = null_address }
    else record {
      length = run.count;
      first = extent_address run.first;
      last = extent_address
          (run.first + run.count - 1);
    }

-- the node of a member
unfoldable pub node_of : Run → ℕ → Node
node_of run e =
    record {
      prev = if e == run.first then null_address else extent_address (e - 1);
      next = if e + 1 == run.first + run.count then null_address else extent_address (e + 1);
    }
