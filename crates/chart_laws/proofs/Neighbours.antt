-- How neighbours in a channel of a sound graph's chart reach each other, given channel or planned. Assumes nothing.
use Rattle.counting.proofs.Prelude.{◌≡◌, ◌∙◌, true, ℕ, suc, ◌<◌}
use Rattle.specification.specs.Graph.{Edge}
use Rattle.specification.specs.Connection.{leading?}
use Rattle.specification.specs.declared.Connection.TheVariants.{LongerOnly}
use Rattle.specification.specs.Channels.{channel_of, position_of}
use Rattle.specification.specs.Checks.{Content, connection_in, Sound}
use Rattle.specification.specs.Chart.{channels_of}
use Rattle.reach.proofs.Connecting.{means_apart}
use Rattle.record.proofs.Soundness.{sound_means}
use Rattle.chart_laws.proofs.Leading.{answer-leads}
use Rattle.chart_laws.proofs.Channels.{channels_divide}

module _ (c : Content) (s : Sound c) (u v : ℕ) (hu : u < c.vertices) (hv : v < c.vertices)
    (together : channel_of (channels_of c) u ≡ channel_of (channels_of c) v)
    (next : position_of (channels_of c) v ≡ suc (position_of (channels_of c) u)) where
  -- there is a way from each to the next
  pub neighbours_led : leading? (connection_in c u v) ≡ true
  neighbours_led = answer-leads c s u v ∙ (channels_divide c s).next u v hu hv together next

  -- and without an edge between them it is by longer routes only
  pub neighbours_apart : (Edge c.tails c.heads u v → ⊥) → connection_in c u v ≡ LongerOnly
  neighbours_apart none = means_apart (connection_in c u v) (sound_means c s u v) none neighbours_led
