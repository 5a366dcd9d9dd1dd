-- How the logic stores what a proxy knows.
use Rattle.std.specs.Prelude.{ℕ, Bool, Option, List, refl}
use Rattle.std.specs.Coded.{Coded, code_by, coded×, coded_list, coded_option, coded_bool, coded_ℕ}
use Rattle.serde_json.specs.Data.{Data}
use Rattle.v1_translate.specs.Heard.{OpenedChannel, ToldJob, ToldTip}
use Rattle.v1_translate.specs.State.{V1State}
use Rattle.v1_translate.specs.Codes.{data_code, state_code}
use Rattle.proxy_rules.specs.State.{Miner, RelayedJob, Relay, Seat, SentOn, Session}

abbrev bytes_code : Coded (List ℕ)
bytes_code = coded_list coded_ℕ

abbrev pub seat_code : Coded Seat
seat_code =
    code_by (ℕ × (ℕ × ℕ)) (coded× coded_ℕ (coded× coded_ℕ coded_ℕ))
    (λ s. (s.lead, (s.channel, s.rolled)))
    (λ p. record { lead = p.0; channel = p.1.0; rolled = p.1.1 })
    (λ _. refl)

abbrev pub session_code : Coded Session
session_code =
    code_by (Option Seat × V1State) (coded× (coded_option seat_code) state_code)
    (λ s. (s.seat, s.v1)) (λ p. record { seat = p.0; v1 = p.1 }) (λ _. refl)

abbrev pub miner_code : Coded Miner
miner_code =
    code_by (ℕ × (List ℕ × Option Session))
    (coded× coded_ℕ (coded× bytes_code (coded_option session_code)))
    (λ m. (m.caller, (m.output, m.session)))
    (λ p. record { caller = p.0; output = p.1.0; session = p.1.1 })
    (λ _. refl)

abbrev pub sent_code : Coded SentOn
sent_code =
    code_by (ℕ × (ℕ × Data)) (coded× coded_ℕ (coded× coded_ℕ data_code))
    (λ s. (s.number, (s.caller, s.id)))
    (λ p. record { number = p.0; caller = p.1.0; id = p.1.1 })
    (λ _. refl)

abbrev channel_code : Coded OpenedChannel
channel_code =
    code_by (ℕ × (List ℕ × (List ℕ × ℕ)))
    (coded× coded_ℕ (coded× bytes_code (coded× bytes_code coded_ℕ)))
    (λ c. (c.channel, (c.target, (c.lead, c.rolled))))
    (λ p. record { channel = p.0; target = p.1.0; lead = p.1.1.0; rolled = p.1.1.1 })
    (λ _. refl)

abbrev told_job_code : Coded ToldJob
told_job_code =
    code_by (ℕ × (ℕ × (List (List ℕ) × (List ℕ × List ℕ))))
    (coded× coded_ℕ (coded× coded_ℕ (coded× (coded_list bytes_code) (coded× bytes_code bytes_code))))
    (λ j. (j.number, (j.version, (j.path, (j.prefix, j.suffix)))))
    (λ p. record { number = p.0; version = p.1.0; path = p.1.1.0; prefix = p.1.1.1.0; suffix = p.1.1.1.1 })
    (λ _. refl)

abbrev job_code : Coded RelayedJob
job_code =
    code_by (ToldJob × Option ℕ) (coded× told_job_code (coded_option coded_ℕ))
    (λ j. (j.job, j.min_ntime)) (λ p. record { job = p.0; min_ntime = p.1 }) (λ _. refl)

abbrev tip_code : Coded ToldTip
tip_code =
    code_by (ℕ × (List ℕ × (ℕ × ℕ)))
    (coded× coded_ℕ (coded× bytes_code (coded× coded_ℕ coded_ℕ)))
    (λ t. (t.job, (t.prev_hash, (t.min_ntime, t.nbits))))
    (λ p. record { job = p.0; prev_hash = p.1.0; min_ntime = p.1.1.0; nbits = p.1.1.1 })
    (λ _. refl)

-- whom it is for, the upstream, the shares, and the outputs
abbrev Owner : Type 0
Owner = List ℕ × ℕ

abbrev Above : Type 0
Above = Bool × (Option OpenedChannel × (List RelayedJob × (Option ToldTip × Bool)))

abbrev Shares : Type 0
Shares = ℕ × List SentOn

abbrev Outputs : Type 0
Outputs = List Miner × List ℕ

abbrev above_code : Coded Above
above_code =
    coded× coded_bool (coded× (coded_option channel_code) (coded× (coded_list job_code)
    (coded× (coded_option tip_code) coded_bool)))

abbrev pub relay_code : Coded Relay
relay_code =
    code_by (Owner × (Above × (Shares × Outputs)))
    (coded× (coded× bytes_code coded_ℕ) (coded× above_code
    (coded× (coded× coded_ℕ (coded_list sent_code)) (coded× (coded_list miner_code) bytes_code))))
    (λ r. (
      (r.user, r.base),
      (
        (r.is_set_up, (r.opened, (r.jobs, (r.tip, r.is_ended)))),
        ((r.sent, r.waiting), (r.miners, r.output)),
      ),
    ))
    (λ p. record {
      user = p.0.0;
      base = p.0.1;
      is_set_up = p.1.0.0;
      opened = p.1.0.1.0;
      jobs = p.1.0.1.1.0;
      tip = p.1.0.1.1.1.0;
      is_ended = p.1.0.1.1.1.1;
      sent = p.1.1.0.0;
      waiting = p.1.1.0.1;
      miners = p.1.1.1.0;
      output = p.1.1.1.1;
    })
    (λ _. refl)
