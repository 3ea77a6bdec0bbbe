use Rattle.wl_settings.proofs.SettingPlaces.{own_places}
use Rattle.wl_settings.proofs.laws.settings_have_own_places.Goals as goal

pub returns : goal.returns
returns c = own_places
