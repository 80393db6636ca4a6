-- What a load or a store and a change are to the cells.
use Rattle.ruled_cells.specs.Laws.{AccessEnters, ChangeIs}
use Rattle.shard_laws.specs.{Accessing.IsAccess, Belonging.Belongs, Changing.ChangedBy, Stripes.Stripe}

pub stripe_enters : AccessEnters (λ (x : Stripe). x.config) (λ x. x.entries) (λ x. x.clock) Belongs IsAccess
stripe_enters k seat actor x y a = record {
  entry = a.entry;
  config_is = a.adds.config_is;
  entries_are = a.adds.entries_are;
  belongs_here = a.here;
  access = a.access;
  counted = a.counted;
  pass = a.pass;
  actor_is = a.actor_is;
  clock_is = a.adds.clock_is;
}

pub stripe_changes : ChangeIs (λ (x : Stripe). x.config) (λ x. x.entries) (λ x. x.clock) ChangedBy
stripe_changes e x y does = record { config_is = does.config_is; entries_are = does.entries_are; clock_is = does.clock_is }
