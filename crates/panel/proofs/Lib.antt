pub mod PanelTheorems
