-- An encoder of one of the groups of the session of the tests.
use Rattle.std.specs.Prelude.{◌≡◌, ℕ}
use Rattle.stripe_plan.specs.Sizes.{IsTable}
use Rattle.packet_session.specs.Encoding.{Encoding}
use Rattle.packet_session.specs.Session.{IsMessage}
use Rattle.test_script.specs.declared.source.TheConstants.{SESSION}

-- it is that of this group, of so many
pub record IsGroupAt (groups group : ℕ) (e : Encoding) : Type 0 where
  pub session : e.header.session ≡ SESSION
  pub groups_are : e.header.groups ≡ groups
  pub group_is : e.header.group ≡ group
  pub table : IsTable e.header.table.packets e.header.table.layers
  pub message : IsMessage 2 e.header.table.layers e.message
