-- What a request asks for, without where its texts lie in memory.
use Rattle.std.specs.Prelude.{ℕ, Bool, true, false, if◌then◌else◌, None, Some, List, [], map}
use Rattle.serde_json.specs.Data.{Data}
use Rattle.pool_history.specs.Accounts.{is_known}
use Rattle.v1_lines.specs.declared.errors.V1Error.TheVariants.{UnauthorizedWorker}
use Rattle.v1_translate.specs.Configuring as configuring
use Rattle.v1_translate.specs.Lines.{yes}
use Rattle.v1_translate.specs.Messages.{to_subscriber}
use Rattle.v1_translate.specs.State.{Terms, V1State, Naming, Answer, Refusal, CodeRefusal, Name, Silence, Reaction, saying}
use Rattle.v1_translate.specs.declared.configuring.Configuration.{Configuration}

abbrev pub configuration_by : Configuration → configuring.Configuration
configuration_by configuration =
    record {
      names = map (λ name. name.now) configuration.names.items;
      asked = configuration.asked;
    }

-- an account is asked for where it is known
abbrev pub name_asked : Terms → V1State → Data → List ℕ → Reaction
name_asked terms state id account =
    if is_known terms.rules account
    then record {
      after = record state { naming = Some (record { id = id; account = account }) };
      says = [];
      asks = Name account;
    }
    else saying state (Refusal id UnauthorizedWorker)

-- an opening is refused to who waits for it
abbrev pub not_opened : V1State → List ℕ → Reaction
not_opened state code =
    record {
      after = record state { subscriber = None };
      says = to_subscriber state.subscriber (λ id. CodeRefusal id code);
      asks = Silence;
    }

-- an account that was asked for is taken or refused
abbrev pub named : V1State → Naming → Bool → Reaction
named state naming true =
    saying (record state { account = Some naming.account }) (Answer naming.id yes)
named state naming false = saying state (Refusal naming.id UnauthorizedWorker)
